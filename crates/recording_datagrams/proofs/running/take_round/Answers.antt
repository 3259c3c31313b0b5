use Rattle.std.proofs.Common.{[], ◌∷◌, refl, sym, subst, arith}
use Rattle.recording_peers.specs.Answers.{Answer, Gives}
use Rattle.recording_datagrams.proofs.Told.{and_tells}
use Rattle.recording_datagrams.proofs.running.take_round.Goals as goal

pub returns : goal.returns
returns g c =
    let kept = c.keep_to_periods-kept.ensures in
    let taken = c.take-taken.ensures in
    record {
      round = record { given = taken.0; is_over = kept.0; second = c.max-now.result; lines = _ };
      is = record {
        forward = omega (arith, c.max-now.ensures);
        kept = c.keep_to_periods-kept.new.self;
        kept_lines = kept.1.lines;
        keeps = kept.1.are;
        taken = c.take-taken.new.self;
        taken_lines = taken.2.lines;
        takes = taken.2.are;
        last_lines = c.go_on_to.ensures.lines;
        goes_on = c.go_on_to.ensures.are;
        lines_are = refl;
      };
      given = subst (λ (a : Answer). Gives g.D.DatagramSource.answered (a ∷ []) c.args.source.now c.ask-received.new.source) (sym taken.1) c.ask-received.ensures.gives;
      told = rw (c.and-2.ensures, c.and.ensures)
          (and_tells kept.1.told
          (and_tells taken.2.told c.go_on_to.ensures.told));
    }
