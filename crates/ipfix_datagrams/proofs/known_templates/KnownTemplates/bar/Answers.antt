use Rattle.std.proofs.Common.{ℕ, List, eqb, refl, sym, subst, ap, ◌∙◌}
use Rattle.std.specs.Prelude.{◌||◌}
use Rattle.std.specs.List.{IsDistinct, list_any}
use Rattle.ipfix_datagrams.specs.Datagrams.{barred_in}
use Rattle.ipfix_datagrams.proofs.Once.{once_put}
use Rattle.ipfix_datagrams.proofs.Weighed.{barred_more}
use Rattle.ipfix_datagrams.proofs.known_templates.KnownTemplates.bar.Goals as goal

pub returns : goal.returns
returns c = record {
  others = refl;
  once = once_put (barred_in c.args.self.now.barred) (barred_in c.put_ids.new.barred) c.args.domain c.in_ok-all.all.items c.in_ok-put_ids.ensures (λ d. c.in_ok-all.ensures.once (subst (IsDistinct eqb) (sym c.barred_in.ensures) d));
  barred = barred_more (barred_in c.args.self.now.barred) (barred_in c.put_ids.new.barred) c.args.domain c.in_ok-all.all.items c.args.ids.now c.in_ok-put_ids.ensures
      (λ id. c.in_ok-all.ensures.both id ∙ ap (λ (xs : List ℕ). list_any (λ b. eqb b id) xs || list_any (λ b. eqb b id) c.args.ids.now) c.barred_in.ensures);
}
