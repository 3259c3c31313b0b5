-- When it is time again, and which periods are left out until then.
use Rattle.std.specs.Prelude.{◌≡◌, ◌≢◌, ◌⊎◌, ℕ, ◌-◌, Bool, true, false, if◌then◌else◌, nat_le, nat_lt, ◌||◌, MatchBool, Option, Some, None}
use Rattle.std.specs.BTreeSet.{contains}
use Rattle.std.specs.Ordering.{nat_cmp}
use Rattle.period_tables.specs.declared.rounds.Rounds.{Rounds}

-- so many seconds after the last time, or if the clock is before it
abbrev pub is_time : Option ℕ → ℕ → ℕ → Bool
is_time None now pause = true
is_time (Some last) now pause = nat_lt now last || nat_le pause (now - last)

-- the period that begins then isn't looked at before the next round over all days
abbrev pub is_settled : Rounds → ℕ → Bool
is_settled rounds begins = contains nat_cmp rounds.settled begins

-- it is settled, the same other periods are as before, and nothing else changes
pub record Settles (begins : ℕ) (before after : Rounds) : Type 0 where
  pub settled : is_settled after begins ≡ true
  pub others : (other : ℕ) → other ≢ begins → is_settled after other ≡ is_settled before other
  pub rest : after ≡ record before { settled = after.settled }

-- or memory ran out for that, and nothing changes
abbrev pub SettlesAtMost : ℕ → Rounds → Rounds → Type 0
SettlesAtMost begins before after = Settles begins before after ⊎ (after ≡ before)

-- no period is settled
abbrev pub HasNone : Rounds → Type 0
HasNone rounds = (begins : ℕ) → is_settled rounds begins ≡ false

-- there was no round yet
pub record AreNew (rounds : Rounds) : Type 0 where
  pub none : HasNone rounds
  pub all : rounds.all ≡ None
  pub told : rounds.told ≡ None

-- a round begins: all days are taken ten minutes after the last time, and lines say a minute after the last ones what periods wait for
pub record Begins (now : ℕ) (before after : Rounds) : Type 0 where
  pub takes_all : after.takes_all ≡ is_time before.all now 600
  pub tells_waiting : after.tells_waiting ≡ is_time before.told now 60
  pub all : after.all ≡ if after.takes_all then Some now else before.all
  pub told : after.told ≡ if after.tells_waiting then Some now else before.told
  pub settled : MatchBool after.takes_all (HasNone after) (after.settled ≡ before.settled)

-- the first of so many days that is taken: of all, or of the last two
abbrev pub first_taken : Rounds → ℕ → ℕ
first_taken rounds days = if rounds.takes_all then 0 else days - 2
