-- The preamble that is written is one.
use Rattle.std.proofs.Common.{◌≡◌, ℕ, ◌+◌, ◌^◌, ◌<◌, List, [], ◌∷◌, ◌++◌, length, map, refl, sym, ap, ◌∙◌, append_assoc, arith}
use Rattle.std.specs.Prelude.{All}
use Rattle.std.specs.List.{flat_map}
use Rattle.std.proofs.lemmas.List.{append-nil}
use Rattle.std.proofs.lemmas.List.Elements.{All-nil, All-cons, All-head, All-tail}
use Rattle.ipfix_message.specs.declared.record.Template.{Template}
use Rattle.ipfix_message.specs.declared.stamp.Stamp.{Stamp}
use Rattle.recording_files.specs.Preambles.{template_set, IsTemplate, sets_octets, templates_message, IsPreamble, preamble}
use Rattle.ipfix_session.specs.Given.{octets_of}

abbrev alone : Template → List Template
alone t = t ∷ []

abbrev Fits : List Template → Type 0
Fits part = 16 + length (sets_octets part) < 2 ^ 16

whole : (ts : List Template) → ts ≡ flat_map (λ part. part) (map alone ts)
whole [] = refl
whole (t ∷ ts) = ap (λ (us : List Template). t ∷ us) (whole ts)

all_fit : (ts : List Template) → All IsTemplate ts → All Fits (map alone ts)
all_fit [] are = All-nil Fits
all_fit (t ∷ ts) are =
    let is = All-head IsTemplate t ts are in
    let size : length (sets_octets (t ∷ [])) ≡ length (template_set t) = ap length (append-nil (template_set t)) in
    All-cons Fits (t ∷ []) (map alone ts) (omega (arith, is.fits, size)) (all_fit ts (All-tail IsTemplate t ts are))

written : (s : Stamp) (ts : List Template) → map (λ t. templates_message s (t ∷ [])) ts ≡ map (templates_message s) (map alone ts)
written s [] = refl
written s (t ∷ ts) = ap (λ (ms : List (List ℕ)). templates_message s (t ∷ []) ∷ ms) (written s ts)

none_fits : Fits []
none_fits = omega arith

pub is_preamble : (s : Stamp) (ts : List Template) → All IsTemplate ts → IsPreamble s ts (preamble s ts)
is_preamble s ts are = record {
  first = [];
  others = map alone ts;
  whole = whole ts;
  fit = All-cons Fits [] (map alone ts) none_fits (all_fit ts are);
  are = ap (λ (ms : List (List ℕ)). templates_message s [] ∷ ms) (written s ts);
}

-- one more message
pub one_more : (out new : List ℕ) (s : Stamp) (t : Template) (ts : List Template) → new ≡ out ++ templates_message s (t ∷ [])
    → new ++ octets_of (map (λ u. templates_message s (u ∷ [])) ts) ≡ out ++ octets_of (map (λ u. templates_message s (u ∷ [])) (t ∷ ts))
one_more out new s t ts is = ap (λ (w : List ℕ). w ++ octets_of (map (λ u. templates_message s (u ∷ [])) ts)) is ∙ append_assoc out (templates_message s (t ∷ [])) (octets_of (map (λ u. templates_message s (u ∷ [])) ts))

-- what begins, and what goes on, a loop over the templates
abbrev each_message : Stamp → List Template → List (List ℕ)
each_message s ts = map (λ t. templates_message s (t ∷ [])) ts

pub begins : (out new : List ℕ) (s : Stamp) (ts us : List Template) → ts ≡ us → new ≡ out ++ templates_message s [] → new ++ octets_of (each_message s ts) ≡ out ++ octets_of (preamble s us)
begins out new s ts us same is =
    ap (λ (xs : List Template). new ++ octets_of (each_message s xs)) same
    ∙ ap (λ (w : List ℕ). w ++ octets_of (each_message s us)) is ∙ append_assoc out (templates_message s []) (octets_of (each_message s us))

pub goes_on : (all out new : List ℕ) (s : Stamp) (t u : Template) (ts rest : List Template) → ts ≡ t ∷ rest → u ≡ t → new ≡ out ++ templates_message s (u ∷ []) → out ++ octets_of (each_message s ts) ≡ all
    → new ++ octets_of (each_message s rest) ≡ all
goes_on all out new s t u ts rest step same is so_far =
    one_more out new s t rest (is ∙ ap (λ (x : Template). out ++ templates_message s (x ∷ [])) same)
    ∙ ap (λ (xs : List Template). out ++ octets_of (each_message s xs)) (sym step) ∙ so_far
