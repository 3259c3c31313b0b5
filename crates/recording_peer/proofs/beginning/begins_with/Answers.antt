use Rattle.std.proofs.Common.{[], ℕ, subst, inl, inr}
use Rattle.std.specs.BTreeMap.{values}
use Rattle.ipfix_datagrams.specs.Datagrams.{Answers, Fits}
use Rattle.ipfix_datagrams.specs.declared.reading.Reading.{Reading}
use Rattle.recording_peer.specs.Beginnings.{first_basis}
use Rattle.recording_peer.proofs.FirstDatagrams.{answers_first, fits_after, no_domains, none_begun}
use Rattle.recording_peer.proofs.beginning.begins_with.Goals as goal

pub returns-in-Ok-Kept : goal.returns-in-Ok-Kept
returns-in-Ok-Kept c =
    let m = c.args.datagram.now in
    let ts = values c.args.resumed.now in
    let k = c.new-known.result in
    let domains = no_domains c.new-domains.result c.new-domains.ensures.fresh c.new-domains.ensures.empty in
    let x = subst (λ (r : Reading). Answers (first_basis ts) c.args.budget [] m r) c.in-Ok-Kept.field-0-is (answers_first k c.args.resumed.now c.args.budget m _ c.new-known.ensures.budget (c.in-Ok-Kept.ensures.reads [] domains c.new-known.ensures.keeps)) in
    let f = fits_after c.args.budget _ k.weights.entries x.0.domains x.2 (subst (λ (n : ℕ). Fits n k.weights.entries []) c.new-known.ensures.budget c.new-known.ensures.keeps.fits) in
    c.beginning_of.ensures c.args.budget f.0 m x.0 c.requires x.1 f.1

pub returns-in-Ok-TooMuch : goal.returns-in-Ok-TooMuch
returns-in-Ok-TooMuch c =
    let m = c.args.datagram.now in
    let ts = values c.args.resumed.now in
    let domains = no_domains c.new-domains.result c.new-domains.ensures.fresh c.new-domains.ensures.empty in
    let x = subst (λ (r : Reading). Answers (first_basis ts) c.args.budget [] m r) c.in-Ok-TooMuch.field-0-is (answers_first c.new-known.result c.args.resumed.now c.args.budget m _ c.new-known.ensures.budget (c.in-Ok-TooMuch.ensures.reads [] domains c.new-known.ensures.keeps)) in
    inr (inl (_, x))

pub returns-in-Ok-Ignored : goal.returns-in-Ok-Ignored
returns-in-Ok-Ignored c =
    let m = c.args.datagram.now in
    let ts = values c.args.resumed.now in
    let domains = no_domains c.new-domains.result c.new-domains.ensures.fresh c.new-domains.ensures.empty in
    let x = subst (λ (r : Reading). Answers (first_basis ts) c.args.budget [] m r) c.in-Ok-Ignored.field-0-is (answers_first c.new-known.result c.args.resumed.now c.args.budget m _ c.new-known.ensures.budget (c.in-Ok-Ignored.ensures.reads [] domains c.new-known.ensures.keeps)) in
    inr (inr x.0)

pub returns : goal.returns
returns c =
    let domains = no_domains c.new-domains.result c.new-domains.ensures.fresh c.new-domains.ensures.empty in
    none_begun c.args.budget (values c.args.resumed.now) c.args.datagram.now c.in-Err.fault c.begins_none.result (c.in-Err.ensures.reads [] domains c.new-known.ensures.keeps) c.begins_none.ensures
