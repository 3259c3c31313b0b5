-- What each step of telling the parser of an argument leaves as it was.
use Rattle.std.specs.Prelude.{◌≡◌}
use Rattle.clap.specs.Words.{Rule}

-- two rules of one argument, of which the second has been told what it takes
pub record SameButValues (old new : Rule) : Type 0 where
  pub id : new.id ≡ old.id
  pub required : new.required ≡ old.required
  pub defaults : new.defaults ≡ old.defaults

-- two rules of one argument, of which the second has been told whether it has to be given
pub record SameButDue (old new : Rule) : Type 0 where
  pub id : new.id ≡ old.id
  pub long : new.long ≡ old.long
  pub action : new.action ≡ old.action
