-- A text is its whole messages and the rest.
use Rattle.std.proofs.Common.{◌≡◌, ℕ, zero, suc, ◌≤◌, ◌++◌, List, length, take, drop, sym, ap, ◌∙◌, arith, length-append, append_assoc, inl, inr}
use Rattle.std.proofs.lemmas.List.{take-append-drop, take_at}
use Rattle.ipfix_wire.specs.InTurn.{Parts}
use Rattle.ipfix_wire.proofs.Parts.{cases_read, parts_of-next, parts_of-none}
use Rattle.ipfix_session.specs.Given.{octets_of}
use Rattle.ipfix_session.specs.MessageStream.{cut, next_message}
use Rattle.ipfix_session.proofs.Cut.{messages_shrink, next_begins}
use Rattle.ipfix_session.specs.WholeMessages.{whole_octets}

-- the text that parts are of
abbrev joined : Parts (List ℕ) → List ℕ
joined p = octets_of p.items ++ p.rest

whole_text : (fuel : ℕ) (w : List ℕ) → length w ≤ fuel → w ≡ joined (cut w)
whole_text zero w enough =
    elim (cases_read (next_message w)) [
      | inl found ↦ let less = messages_shrink.less w found.0.0 found.0.1 found.1 in absurd (omega arith)
      | inr none ↦ sym (ap joined (parts_of-none next_message w none.0 none.1))
    ]
whole_text (suc fuel) w enough =
    elim (cases_read (next_message w)) [
      | inl found ↦
          let m = found.0.0 in
          let r = found.0.1 in
          let less = messages_shrink.less w m r found.1 in
          let b = next_begins w m r found.1 in
          let parts : w ≡ m ++ r = sym (take-append-drop b.header.length w) ∙ ap (λ (x : List ℕ). x ++ drop b.header.length w) b.message ∙ ap (λ (y : List ℕ). m ++ y) b.rest in
          parts
          ∙ ap (λ (y : List ℕ). m ++ y) (whole_text fuel r (omega arith))
          ∙ sym (append_assoc m (octets_of (cut r).items) (cut r).rest)
          ∙ sym (ap joined (parts_of-next next_message messages_shrink w m r found.1))
      | inr none ↦ sym (ap joined (parts_of-none next_message w none.0 none.1))
    ]

-- the rest is at most as long
pub rest-le : (w : List ℕ) → length (cut w).rest ≤ length w
rest-le w = omega (arith, ap length (whole_text (length w) w (omega arith)), length-append (octets_of (cut w).items) (cut w).rest)

pub whole_first : (text : List ℕ) → take (whole_octets text) text ≡ octets_of (cut text).items
whole_first text =
    let all = whole_text (length text) text (omega arith) in
    let count : whole_octets text ≡ length (octets_of (cut text).items) = omega (arith, ap length all, length-append (octets_of (cut text).items) (cut text).rest) in
    ap (λ (t : List ℕ). take (whole_octets text) t) all ∙ take_at (octets_of (cut text).items) (cut text).rest (whole_octets text) (sym count)
