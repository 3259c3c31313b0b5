-- Lists side by side.
use Rattle.std.proofs.Common.{List, [], ◌∷◌, ◌++◌}
use Rattle.std.specs.Prelude.{All}
use Rattle.std.specs.List.{AllZip}
use Rattle.std.proofs.lemmas.List.Elements.{All-head, All-tail}
use Rattle.flow_collect.specs.Places.{Each3, Each4}

-- four more at the ends
pub each4_more : {A B C D : Type 0} (P : A → B → C → D → Type 0) (aa : List A) (bs : List B) (cs : List C) (ds : List D) (a : A) (b : B) (c : C) (d : D)
    → Each4 P aa bs cs ds → P a b c d → Each4 P (aa ++ a ∷ []) (bs ++ b ∷ []) (cs ++ c ∷ []) (ds ++ d ∷ [])
each4_more P [] [] [] [] a b c d e p = (p, tt)
each4_more P (w ∷ aa) (x ∷ bs) (y ∷ cs) (z ∷ ds) a b c d e p = (e.0, each4_more P aa bs cs ds a b c d e.1 p)
each4_more P aa bs cs ds a b c d e p = absurd e

-- four lists behind four others
pub each4_append : {A B C D : Type 0} (P : A → B → C → D → Type 0) (aa aa' : List A) (bs bs' : List B) (cs cs' : List C) (ds ds' : List D)
    → Each4 P aa bs cs ds → Each4 P aa' bs' cs' ds' → Each4 P (aa ++ aa') (bs ++ bs') (cs ++ cs') (ds ++ ds')
each4_append P [] aa' [] bs' [] cs' [] ds' e f = f
each4_append P (w ∷ aa) aa' (x ∷ bs) bs' (y ∷ cs) cs' (z ∷ ds) ds' e f = (e.0, each4_append P aa aa' bs bs' cs cs' ds ds' e.1 f)
each4_append P aa aa' bs bs' cs cs' ds ds' e f = absurd e

-- what holds of the last two
pub last_two : {A B C D : Type 0} (P : A → B → C → D → Type 0) (Q : C → D → Type 0) → ((a : A) (b : B) (c : C) (d : D) → P a b c d → Q c d)
    → (aa : List A) (bs : List B) (cs : List C) (ds : List D) → Each4 P aa bs cs ds → AllZip Q cs ds
last_two P Q so [] [] [] [] e = tt
last_two P Q so (w ∷ aa) (x ∷ bs) (y ∷ cs) (z ∷ ds) e = (so w x y z e.0, last_two P Q so aa bs cs ds e.1)
last_two P Q so aa bs cs ds e = absurd e

-- what holds of the last of four and of something beside the first
pub last_beside : {A B C D E : Type 0} (P : A → B → C → D → Type 0) (R : A → E → Type 0) (Q : D → E → Type 0) → ((a : A) (b : B) (c : C) (d : D) (x : E) → P a b c d → R a x → Q d x)
    → (aa : List A) (bs : List B) (cs : List C) (ds : List D) (xs : List E) → Each4 P aa bs cs ds → AllZip R aa xs → AllZip Q ds xs
last_beside P R Q so [] [] [] [] [] e r = tt
last_beside P R Q so (w ∷ aa) (x ∷ bs) (y ∷ cs) (z ∷ ds) (v ∷ xs) e r = (so w x y z v e.0 r.0, last_beside P R Q so aa bs cs ds xs e.1 r.1)
last_beside P R Q so [] [] [] [] (v ∷ xs) e r = absurd r
last_beside P R Q so (w ∷ aa) (x ∷ bs) (y ∷ cs) (z ∷ ds) [] e r = absurd r
last_beside P R Q so aa bs cs ds xs e r = absurd e

-- what holds of the last two of four and of something beside the first two
pub last_two_beside : {A B C D E : Type 0} (P : A → B → C → D → Type 0) (R : A → B → E → Type 0) (Q : C → D → E → Type 0) → ((a : A) (b : B) (c : C) (d : D) (x : E) → P a b c d → R a b x → Q c d x)
    → (aa : List A) (bs : List B) (cs : List C) (ds : List D) (xs : List E) → Each4 P aa bs cs ds → Each3 R aa bs xs → Each3 Q cs ds xs
last_two_beside P R Q so [] [] [] [] [] e r = tt
last_two_beside P R Q so (w ∷ aa) (x ∷ bs) (y ∷ cs) (z ∷ ds) (v ∷ xs) e r = (so w x y z v e.0 r.0, last_two_beside P R Q so aa bs cs ds xs e.1 r.1)
last_two_beside P R Q so [] [] [] [] (v ∷ xs) e r = absurd r
last_two_beside P R Q so (w ∷ aa) (x ∷ bs) (y ∷ cs) (z ∷ ds) [] e r = absurd r
last_two_beside P R Q so aa bs cs ds xs e r = absurd e

-- what holds of the outer two of three
pub outer_two : {A B C : Type 0} (P : A → B → C → Type 0) (Q : A → C → Type 0) → ((a : A) (b : B) (c : C) → P a b c → Q a c)
    → (aa : List A) (bs : List B) (cs : List C) → Each3 P aa bs cs → AllZip Q aa cs
outer_two P Q so [] [] [] e = tt
outer_two P Q so (x ∷ aa) (y ∷ bs) (z ∷ cs) e = (so x y z e.0, outer_two P Q so aa bs cs e.1)
outer_two P Q so aa bs cs e = absurd e

-- four with what holds of each third
pub each4_third : {A B C D : Type 0} (P : A → B → C → D → Type 0) (N : C → Type 0) (aa : List A) (bs : List B) (cs : List C) (ds : List D) → Each4 P aa bs cs ds → All N cs → Each4 (λ a b c d. P a b c d × N c) aa bs cs ds
each4_third P N [] [] [] [] e n = tt
each4_third P N (w ∷ aa) (x ∷ bs) (y ∷ cs) (z ∷ ds) e n = ((e.0, All-head N y cs n), each4_third P N aa bs cs ds e.1 (All-tail N y cs n))
each4_third P N aa bs cs ds e n = absurd e
