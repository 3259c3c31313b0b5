-- Exporters that are found one after another.
use Rattle.std.proofs.Common.{◌≡◌, ℕ, List, [], ◌∷◌, ◌++◌, length, Option, sym, subst, ap, ◌∙◌, append_assoc, append-nil, arith}
use Rattle.std.specs.Borrow.{Bor}
use Rattle.std.specs.declared.net.ip_addr.IpAddr.{IpAddr}
use Rattle.period_collect.specs.Exporters.{IsExporterOf, AreExportersOf}

-- whatever the exporters of those that are left are, they come after those that were found
abbrev pub SoFar : List (Bor (List ℕ)) → List (Bor (List ℕ)) → List (Option IpAddr) → Type 0
SoFar all left done = (more : List (Option IpAddr)) → AreExportersOf left more → AreExportersOf all (done ++ more)

pub one_more : (all left rest : List (Bor (List ℕ))) (path : Bor (List ℕ)) (told : Option IpAddr) (done longer : List (Option IpAddr)) → left ≡ path ∷ rest → longer ≡ done ++ told ∷ [] → SoFar all left done → IsExporterOf path.now told → SoFar all rest longer
one_more all left rest path told done longer split is so_far tells more later =
    subst (AreExportersOf all) (sym (append_assoc done (told ∷ []) more) ∙ ap (λ (t : List (Option IpAddr)). t ++ more) (sym is))
    (so_far (told ∷ more) (subst (λ (t : List (Bor (List ℕ))). AreExportersOf t (told ∷ more)) (sym split) (tells, later)))

none_left : (left : List (Bor (List ℕ))) → length left ≡ 0 → AreExportersOf left []
none_left [] empty = tt
none_left (path ∷ paths) empty = absurd (omega arith)

pub at_end : (all left : List (Bor (List ℕ))) (done : List (Option IpAddr)) → length left ≡ 0 → SoFar all left done → AreExportersOf all done
at_end all left done empty so_far = subst (AreExportersOf all) (append-nil done) (so_far [] (none_left left empty))
