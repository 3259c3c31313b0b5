-- What maps by number and lists of ids have, in the contracts of several functions. The numbers are the ids of templates, or domains.
use Rattle.std.specs.Prelude.{◌≡◌, ◌==◌, ◌||◌, ℕ, Bool, List, ◌++◌, if◌then◌else◌, Option}
use Rattle.std.specs.Option.{option_and_then, option_or}
use Rattle.std.specs.Global.{Vec}
use Rattle.std.specs.List.{list_any}
use Rattle.std.specs.Ordering.{nat_cmp}
use Rattle.std.specs.BTreeMap.{BTreeMap, get}

-- ---- maps

-- a map has for each number what f gives for it
abbrev pub Holds : {V : Type 0} → BTreeMap ℕ V → (ℕ → Option V) → Type 0
Holds m f = (q : ℕ) → get nat_cmp m q ≡ f q

-- what f gives for a number is put in a map in place of what it had; where f gives nothing, that stays
abbrev pub Puts : {V : Type 0} → BTreeMap ℕ V → BTreeMap ℕ V → (ℕ → Option V) → Type 0
Puts old new f = (q : ℕ) → get nat_cmp new q ≡ option_or (f q) (get nat_cmp old q)

-- and so for this number alone
abbrev pub PutsAt : {V : Type 0} → BTreeMap ℕ V → BTreeMap ℕ V → ℕ → (ℕ → Option V) → Type 0
PutsAt old new n f = (q : ℕ) → get nat_cmp new q ≡ (if q == n then option_or (f q) (get nat_cmp old q) else get nat_cmp old q)

-- what a map of each domain's map has
abbrev pub entry_in : {V : Type 0} → BTreeMap ℕ (BTreeMap ℕ V) → ℕ → ℕ → Option V
entry_in maps domain id = option_and_then (λ m. get nat_cmp m id) (get nat_cmp maps domain)

-- a domain has from now on what f gives, and nothing else; the other domains have what they had
abbrev pub PutsIn : {V : Type 0} → BTreeMap ℕ (BTreeMap ℕ V) → BTreeMap ℕ (BTreeMap ℕ V) → ℕ → (ℕ → Option V) → Type 0
PutsIn old new domain f = (q id : ℕ) → entry_in new q id ≡ (if q == domain then f id else entry_in old q id)

-- ---- lists

-- a vector has gained these at its end
abbrev pub Gains : {X : Type 0} → Vec X → Vec X → List X → Type 0
Gains old new xs = new.items ≡ old.items ++ xs

-- an id is among others
abbrev pub is_listed : List ℕ → ℕ → Bool
is_listed ids q = list_any (λ b. b == q) ids

-- these ids are the old ones and those of which p is true
abbrev pub AlsoLists : List ℕ → List ℕ → (ℕ → Bool) → Type 0
AlsoLists old new p = (q : ℕ) → is_listed new q ≡ (is_listed old q || p q)
