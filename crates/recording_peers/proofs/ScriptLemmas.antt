-- One more tick of a script.
use Rattle.std.proofs.Common.{◌≡◌, ℕ, zero, suc, ◌≤◌, List, [], ◌∷◌, ◌++◌, map, take, replicate, length, Result, Err, refl, ap, ◌∙◌, arith, append_assoc}
use Rattle.recording_peers.specs.Answers.{Answer}
use Rattle.recording_peers.specs.Scripts.{AreFirst, scripted}
use Rattle.recording_peers.specs.declared.datagram_source.NoDatagram.{NoDatagram}
use Rattle.recording_peers.specs.declared.datagram_source.NoDatagram.TheVariants.{Tick}
use Rattle.recording_peers.specs.declared.script_datagrams.ScriptedDatagram.{ScriptedDatagram}

same-push : {X : Type 0} (k : ℕ) (x : X) → replicate k x ++ x ∷ [] ≡ replicate (suc k) x
same-push zero x = refl
same-push (suc k) x = ap (λ l. x ∷ l) (same-push k x)

pub ticks_on : (script : List (Result ScriptedDatagram NoDatagram)) (n : ℕ) (before : List Answer) → length script ≤ n → AreFirst script n before → AreFirst script n (before ++ Err Tick ∷ [])
ticks_on script n before h f = record {
  ticks = suc f.ticks;
  are = ap (λ (l : List Answer). l ++ Err Tick ∷ []) f.are ∙ append_assoc (map scripted (take n script)) (replicate f.ticks (Err Tick)) (Err Tick ∷ []) ∙ ap (λ (l : List Answer). map scripted (take n script) ++ l) (same-push f.ticks (Err Tick));
  behind_all = λ k. absurd (omega arith);
}
