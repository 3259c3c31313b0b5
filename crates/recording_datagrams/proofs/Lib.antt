mod AllOwn
mod BehindRounds
mod GoingOver
mod HeardLast
mod OneStep
mod OwnHappenings
mod RoundLemmas
mod Told
