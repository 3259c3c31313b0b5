use Rattle.std.proofs.Common.{◌≡◌, List, [], subst, sym, map}
use Rattle.std.specs.Prelude.{All}
use Rattle.std.proofs.lemmas.List.Elements.{All-weaker}
use Rattle.flow_link.specs.Ends.{LinkName}
use Rattle.flow_collect.specs.Dealt.{IsPaired, IsNewShare, IsNewStart, start_link}
use Rattle.flow_collect.specs.Finished.{link_ends_of}
use Rattle.flow_collect.specs.LinkEnds.{IsUnused}
use Rattle.flow_collect.specs.declared.session_thread.Start.{Start}
use Rattle.flow_collect.proofs.CollectLists.{all_taken, all_paired, links_same, answered, failed, fitting}
use Rattle.flow_collect.proofs.collecting.collect_judged.Goals as goal

pub in_threads-requires-clause-unused : goal.in_threads-requires-clause-unused
in_threads-requires-clause-unused g c κs within =
    All-weaker (IsNewStart c.args.pool.capacity) (λ (start : Start g.row.S.Denot). start.sender.sent ≡ []) (λ start new. new.0) _ c.in_ok-starts.ensures.dealt.new_starts

pub in_threads-requires-clause-shares : goal.in_threads-requires-clause-shares
in_threads-requires-clause-shares g c κs within =
    All-weaker (IsNewShare c.args.plan.now (map start_link c.in_ok-starts.starts.items)) IsUnused (λ share new. new.unused) _ c.in_ok-starts.ensures.dealt.new_shares

pub finish_all-requires-clause-taken : goal.finish_all-requires-clause-taken
finish_all-requires-clause-taken g c κs within = (c.args.plan.now, all_taken _ _ _ _ c.in_ok-ended.ensures.workers c.in_ok-starts.ensures.dealt.new_shares)

pub finish_all-requires-clause-paired : goal.finish_all-requires-clause-paired
finish_all-requires-clause-paired g c κs within =
    subst (λ (links : List LinkName). All (IsPaired links) (link_ends_of c.in_ok-ended.worked.items))
    (sym (links_same g.S.Source.seen _ _ c.in_ok-ended.ensures.sessions))
    (all_paired _ _ _ _ c.in_ok-ended.ensures.workers c.in_ok-starts.ensures.dealt.new_shares)

pub returns-clause-headline : goal.returns-clause-headline
returns-clause-headline g c =
    answered g.S.Source.seen _ _ _ _ _ _ _ c.in_ok-starts.ensures.dealt c.in_ok-ended.ensures.sessions
    (c.in_ok-answer.ensures.ok c.args.plan.now (all_taken _ _ _ _ c.in_ok-ended.ensures.workers c.in_ok-starts.ensures.dealt.new_shares))

pub returns-clause-fits : goal.returns-clause-fits
returns-clause-fits g c =
    fitting _ _ _ (c.in_ok-answer.ensures.ok c.args.plan.now (all_taken _ _ _ _ c.in_ok-ended.ensures.workers c.in_ok-starts.ensures.dealt.new_shares))

pub returns-clause-large : goal.returns-clause-large
returns-clause-large g c =
    failed g.S.Source.seen _ _ _ _ _ _ _ c.in_ok-starts.ensures.dealt c.in_ok-ended.ensures.sessions
    (c.in_ok-answer.ensures.large c.args.plan.now (all_taken _ _ _ _ c.in_ok-ended.ensures.workers c.in_ok-starts.ensures.dealt.new_shares))
