use Rattle.std.proofs.Common.{◌≡◌, ℕ, List, length, take, ap, ◌∙◌}
use Rattle.std.specs.Str.{str_eq_ignore_ascii_case, str_to_ascii_lowercase}
use Rattle.std.proofs.lemmas.Bool.Decides.{same_from_decides}
use Rattle.std.proofs.lemmas.List.{take_min}
use Rattle.std.proofs.lemmas.Slice.Eq.{bytes_eq-Decides}
use Rattle.command_elements.proofs.fitting.begins.Goals as goal

pub returns : goal.returns
returns c =
    let start = c.split_at.result.0.now in
    let word = c.args.word.now in
    let same : c.eq_ignore_ascii_case.result ≡ str_eq_ignore_ascii_case start word =
    same_from_decides c.eq_ignore_ascii_case.result _ c.eq_ignore_ascii_case.ensures.test (bytes_eq-Decides (str_to_ascii_lowercase start) (str_to_ascii_lowercase word)) in
    same
    ∙ ap (λ (t : List ℕ). str_eq_ignore_ascii_case t word)
    (c.split_at.ensures.front ∙ ap (λ (n : ℕ). take n c.args.text.now) c.min.ensures ∙ take_min (length word) c.args.text.now)
