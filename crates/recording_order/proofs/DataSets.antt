-- The data sets of a datagram, set by set.
use Rattle.std.proofs.Common.{◌≡◌, ℕ, ◌<◌, ◌≤◌, true, false, leb, List, length, take, drop, Result, Ok, Err, refl, ap, ◌∙◌}
use Rattle.std.specs.Prelude.{◌||◌}
use Rattle.std.specs.List.{list_any}
use Rattle.std.proofs.lemmas.Bool.{le-leb, lt-leb}
use Rattle.ipfix_wire.specs.SetHeader.{set_at}
use Rattle.ipfix_wire.specs.declared.set.SetSpan.{SetSpan}
use Rattle.ipfix_wire.specs.declared.fault.WireFault.{WireFault}
use Rattle.ipfix_wire.specs.InTurn.{Parts}
use Rattle.ipfix_wire.proofs.Parts.{parts_of-next, parts_of-none}
use Rattle.ipfix_message.specs.Faults.{fault_of}
use Rattle.ipfix_message.specs.declared.fault.MessageFault.{MessageFault}
use Rattle.ipfix_message.specs.Sets.{Set, cut_set, next_set}
use Rattle.ipfix_message.proofs.MessageSets.{sets_shrink, next_set-nil}
use Rattle.recording_order.specs.DataSets.{is_data, have_data}

next_set-is : (w : List ℕ) (r : Result SetSpan WireFault) → r ≡ set_at w → next_set w ≡ cut_set w r
unfolding next_set
next_set-is w r h = rw h refl

-- one more set in front
pub have_data-next : (w : List ℕ) (s : SetSpan) → Ok s ≡ set_at w → have_data w ≡ (leb 256 s.id || have_data (drop s.body (drop 4 w)))
have_data-next w s h =
    ap (λ (p : Parts Set). list_any is_data p.items)
    (parts_of-next next_set sets_shrink w (record { id = s.id; body = take s.body (drop 4 w) }) (drop s.body (drop 4 w)) (next_set-is w (Ok s) h))

pub have_data-here : (w : List ℕ) (s : SetSpan) → Ok s ≡ set_at w → 256 ≤ s.id → have_data w ≡ true
have_data-here w s h here = have_data-next w s h ∙ rw (le-leb 256 s.id here) refl

pub have_data-behind : (w : List ℕ) (s : SetSpan) → Ok s ≡ set_at w → s.id < 256 → have_data w ≡ have_data (drop s.body (drop 4 w))
have_data-behind w s h other = have_data-next w s h ∙ rw (lt-leb 256 s.id other) refl

pub have_data-none : (w : List ℕ) (e : WireFault) → Err e ≡ set_at w → have_data w ≡ false
have_data-none w e h = ap (λ (p : Parts Set). list_any is_data p.items) (parts_of-none next_set w (fault_of e) (next_set-is w (Err e) h))

pub have_data-nil : (w : List ℕ) → length w ≡ 0 → have_data w ≡ false
have_data-nil w h =
    let none : (f : MessageFault) × (next_set w ≡ Err f) = next_set-nil w h in
    ap (λ (p : Parts Set). list_any is_data p.items) (parts_of-none next_set w none.0 none.1)
