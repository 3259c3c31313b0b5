-- Threads that were started, by their handles: what they were given, and what they handed back.
use Rattle.std.specs.Prelude.{◌≡◌, Ok, Result}
use Rattle.std.specs.declared.thread.PromisedHandle.{PromisedHandle}
use Rattle.flow_collect.specs.declared.session_thread.Start.{Start}
use Rattle.flow_collect.specs.declared.threads.sessions.SessionOf.{SessionOf}
use Rattle.flow_collect.specs.declared.threads.workers.WorkerOf.{WorkerOf}
use Rattle.flow_collect.specs.declared.worker.WorkerShare.{WorkerShare}

-- what a session's thread was given, by its promise, and what a worker's was
abbrev pub start_of : {S : Type 0} → SessionOf S → Start S
start_of promise = promise.start.value

abbrev pub share_of : WorkerOf → WorkerShare
share_of promise = promise.share.value

-- the handle is that of the thread that was given this
abbrev pub IsGivenTo : {T P A : Type 0} → (P → A) → A → PromisedHandle T P → Type 0
IsGivenTo given a handle = given handle.promise ≡ a

-- what its thread handed back keeps the promise
abbrev pub KeepsPromise : {T E P : Type 0} → (P → Result T E → Type 0) → PromisedHandle (Result T E) P → T → Type 0
KeepsPromise kept_by handle back = kept_by handle.promise (Ok back)
