-- Where sessions come from.
use Rattle.std.specs.Prelude.{◌≡◌, ℕ, List, Option}
use Rattle.std.specs.Borrow.{Bor}
use Rattle.std.specs.List.{AllZip}
use Rattle.std.specs.declared.net.socket_addr.SocketAddr.{SocketAddr}
use Rattle.report_writing.specs.declared.origin.Origin.{Origin}
use Rattle.report_writing.specs.declared.origin.Origin.TheVariants.{File, Peer, Unknown}

-- the origin of a session is a file of this name, which has such a size
abbrev pub IsFileNamed : (Option ℕ → Type 0) → List ℕ → Origin → Type 0
IsFileNamed HasSize path (File name size) = (name.now ≡ path) × HasSize size
IsFileNamed HasSize path (Peer address) = ⊥
IsFileNamed HasSize path Unknown = ⊥

-- the files of these paths, in their order, which have sizes so
abbrev pub AreFiles : (List ℕ → Option ℕ → Type 0) → List (Bor (List ℕ)) → List Origin → Type 0
AreFiles HasSize paths origins = AllZip (λ path. IsFileNamed (HasSize path.now) path.now) paths origins

-- the origin of a session is the peer that its source is of
abbrev pub IsPeerOf : {S : Type 0} → (S → SocketAddr → Type 0) → S → Origin → Type 0
IsPeerOf IsOf source (File name size) = ⊥
IsPeerOf IsOf source (Peer address) = IsOf source address
IsPeerOf IsOf source Unknown = ⊥

-- each is the peer of its source
abbrev pub ArePeers : {S : Type 0} → (S → SocketAddr → Type 0) → List S → List Origin → Type 0
ArePeers IsOf sources origins = AllZip (IsPeerOf IsOf) sources origins
