use Rattle.std.proofs.Common.{◌≡◌, ℕ, Bool, cond, eqb, ◌++◌, ◌∷◌, [], List, Option, length, refl, sym, ap, ap₂, subst, ◌∙◌}
use Rattle.std.specs.Ordering.{nat_cmp}
use Rattle.std.specs.BTreeMap.{get}
use Rattle.std.specs.Option.{option_to_list}
use Rattle.std.proofs.lemmas.Result.{err_from_is_err_and}
use Rattle.ipfix_wire.specs.declared.header.Header.{Header}
use Rattle.ipfix_message.specs.Domains.{History}
use Rattle.ipfix_session.specs.Given.{IsPrefix}
use Rattle.ipfix_datagrams.specs.Datagrams.{IsReadingOf, WeighAfter, defines_template, preparation_of}
use Rattle.ipfix_datagrams.specs.Readings.{ReadSo}
use Rattle.ipfix_datagrams.specs.declared.reach.Reach.{Reach}
use Rattle.ipfix_datagrams.proofs.Kept.{record_domain}
use Rattle.ipfix_datagrams.proofs.Readings.{header_same}
use Rattle.recording_resumption.specs.Resumption.{left_after}
use Rattle.recording_files.specs.declared.message_count.MessageCount.{MessageCount}
use Rattle.recording_files.specs.Files.{with_more}
use Rattle.recording_files.specs.Recorders.{AreCountsOf, Counted, Told}
use Rattle.ipfix_datagrams.specs.Late.{time_at}
use Rattle.recording_peer.specs.Peers.{basis_with, Resumed, resumed_after, resumption_in, givens, known_after_all, all_given}
use Rattle.recording_peer.specs.declared.resumption.Resumption.{Resumption}
use Rattle.recording_peer.specs.Recording.{KnownShown, PeerTold, PeerView, known_shown, filed_with, left_listed, resumed_for, taken_before, taken_in}
use Rattle.recording_peer.proofs.Leaving.{keeps_left, left_as_kept, left_as_listed, resumed_with}
use Rattle.recording_peer.specs.Fronts.{taken_as}
use Rattle.recording_peer.proofs.Listed.{once_again, keeps_known, listed, shown_again}
use Rattle.recording_peer.proofs.Lateness.{same_header, times_same, times_with, where_at}
use Rattle.recording_peer.proofs.PeerFiles.{files_here}
use Rattle.recording_peer.proofs.Taking.{inside_of, represents, peer_with}
use Rattle.recording_peer.proofs.Stopping.{stops_out, stops_cut}
use Rattle.recording_peer.proofs.peer_recorder.PeerRecorder.record.Goals as goal

abbrev counts_as : Told → ℕ → List (ℕ × Reach) → List Resumption → PeerTold
counts_as c n r went_on = record { counts = c; ignored = n; advances = r; resumed = went_on }

told_with : {c d : Told} {r s : List (ℕ × Reach)} {f g : List Resumption} (n : ℕ) → c ≡ d → r ≡ s → f ≡ g → counts_as c n r f ≡ counts_as d n s g
told_with n e f g = rw (e, f, g) refl

pub returns-in_err-count-clause-stopped : goal.returns-in_err-count-clause-stopped
returns-in_err-count-clause-stopped g c = λ first filed p.
    let m = c.args.datagram.now in
    let now = inside_of c.self.view_is p.is in
    let h = c.args.header.now in
    let due : (resumed_for filed m).due ≡ c.due_left-due_left.result = ap (λ (r : Resumed). r.due) (resumed_with filed m h c.requires.header) ∙ sym (c.due_left-due_left.ensures first (g.F.FileSeries.seen c.args.files.now) filed p.is) in
    let read = subst (λ (ds : History). IsReadingOf (basis_with (resumed_for filed m) p.barred) ds m c.args.reading.now p.given) (files_here filed) p.read in
    let memory = c.in_err-count.ensures (all_given (taken_before filed)) (all_given filed.here) c.args.second (resumed_for filed m) p.barred p.given now.keeps due read in
    let e = err_from_is_err_and c.from_residual-in_err-count.result c.from_residual-in_err-count.ensures.1 in
    rw (e.1, e.2) (stops_out c.in_err-count.field-0.0 first (g.F.FileSeries.seen c.args.files.now) _ filed (counts_as c.clear_waiting.new.self.told c.self.inside.ignored c.self.inside.advances.reaches c.self.inside.resumed.items) m memory now (told_with c.self.inside.ignored c.clear_waiting.ensures.told refl refl))

pub returns-in_err-append-clause-stopped : goal.returns-in_err-append-clause-stopped
returns-in_err-append-clause-stopped g c = λ first filed p.
    let m = c.args.datagram.now in
    let r = c.args.reading.now in
    let now = inside_of c.self.view_is p.is in
    let h = c.args.header.now in
    let due : (resumed_for filed m).due ≡ c.due_left-due_left.result = ap (λ (r : Resumed). r.due) (resumed_with filed m h c.requires.header) ∙ sym (c.due_left-due_left.ensures first (g.F.FileSeries.seen c.args.files.now) filed p.is) in
    let k = c.in_ok-count.ensures (all_given (taken_before filed)) (all_given filed.here) c.args.second (resumed_for filed m) p.barred p.given now.keeps due (subst (λ (ds : History). IsReadingOf (basis_with (resumed_for filed m) p.barred) ds m r p.given) (files_here filed) p.read) in
    let octets = c.take_datagram.new.out.items in
    let cut = c.in_err-append.ensures in
    let front : IsPrefix cut.0 octets = subst (λ (w : List ℕ). IsPrefix cut.0 w) c.deref.ensures.value cut.1 in
    let told = told_with c.self.inside.ignored (c.in_ok-wait_for.ensures.told ∙ c.clear_waiting.ensures.told) c.in_ok-make_room.ensures.same c.in_ok-reserve.ensures.items in
    let e = err_from_is_err_and c.from_residual-in_err-append.result c.from_residual-in_err-append.ensures.1 in
    rw (e.1, e.2) (stops_cut first (g.F.FileSeries.seen c.args.files.now) (g.F.FileSeries.seen c.append.new.self) _ c.take_datagram.new.recorder filed m c.args.second (resumed_for filed m) p.barred r p.given octets cut.0 c.in_ok-count.count
    (counts_as c.wait_for.new.self.told c.self.inside.ignored c.make_room.new.self.reaches c.reserve.new.self.items) now p.read.taken k front cut.2 told)

pub returns-clause-recorded : goal.returns-clause-recorded
returns-clause-recorded g c = λ first filed p.
    let v = g.F.FileSeries.seen c.args.files.now in
    let m = c.args.datagram.now in
    let r = c.args.reading.now in
    let x = p.given in
    let known = known_after_all (taken_in filed) in
    let now = inside_of c.self.view_is p.is in
    let h = c.args.header.now in
    let due : (resumed_for filed m).due ≡ c.due_left-due_left.result = ap (λ (r : Resumed). r.due) (resumed_with filed m h c.requires.header) ∙ sym (c.due_left-due_left.ensures first (g.F.FileSeries.seen c.args.files.now) filed p.is) in
    let before = givens (taken_before filed) in
    let header : x.header ≡ h = header_same _ m h x c.requires.header p.read.taken.read in
    let defines : c.defines.result ≡ defines_template m = c.defines.ensures (basis_with (resumed_for filed m) p.barred) known m x p.read in
    let domain = record_domain (basis_with (resumed_for filed m) p.barred) known m x (preparation_of r) c.args.header.now c.requires.header p.read.taken in
    let b = p.barred in
    let shown : known_shown c.self.inside.known ≡ c.args.self.now.known = ap (λ (s : PeerView). s.known) c.self.view_is in
    let so : ReadSo c.domains-domains.result.now h.domain r = record {
      basis = basis_with (resumed_for filed m) p.barred;
      history = known;
      datagram = m;
      given = x;
      represents = represents c.domains-domains.result.now now c.domains-domains.ensures;
      reading = p.read;
      of_domain = domain;
    } in
    let kept = c.in_ok-keep_known.ensures so (keeps_known c.self.inside.known known now.withdrawn now.fits) (subst (λ (n : ℕ). WeighAfter r.weights n known x.domains) (sym (ap (λ (k : KnownShown). k.budget) shown)) p.weighs) in
    let withdrawn = listed c.keep_known.new.known.withdrawn x.domains kept.keeps.withdrawn in
    let k = c.in_ok-count.ensures (all_given (taken_before filed)) (all_given filed.here) c.args.second (resumed_for filed m) b x now.keeps due (subst (λ (ds : History). IsReadingOf (basis_with (resumed_for filed m) p.barred) ds m r x) (files_here filed) p.read) in
    let told = c.in_ok-wait_for.ensures.told ∙ c.clear_waiting.ensures.told in
    let waits : c.wait_for.new.self.waiting ≡ c.in_ok-count.count ∷ [] = c.in_ok-wait_for.ensures.waits ∙ ap (λ (cs : List MessageCount). cs ++ c.in_ok-count.count ∷ []) c.clear_waiting.ensures.waiting in
    let counted = c.count_waiting.ensures before (givens filed.here) (x ∷ []) (subst (λ (t : Told). Counted t before (givens filed.here)) (sym told) now.counted.counted)
    (subst (λ (cs : List MessageCount). AreCountsOf cs (x ∷ [])) (sym waits) (k.counts, tt)) in
    let noted = c.note.ensures (givens (taken_in filed)) x (c.in_ok-make_room.ensures.same ∙ now.counted.noted) (ap (λ (h : Header). h.domain) k.counts.header) (ap (λ (h : Header). h.sequence) k.counts.header) k.counts.records in
    let again = shown_again c.self.inside.known c.keep_known.new.known c.args.self.now.known x.header.domain m shown kept.barred in
    let u = taken_as m c.args.second (resumed_for filed m) b (preparation_of r) k.front x in
    let one_resumed : c.resumption-resumption.result ≡ resumption_in x.header.domain (length (resumed_for filed m).templates) =
    c.resumption-resumption.ensures first v filed p.is
    ∙ ap (λ (s : Resumed). resumption_in h.domain (length s.templates)) (sym (resumed_with filed m h c.requires.header))
    ∙ ap (λ (k : Header). resumption_in k.domain (length (resumed_for filed m).templates)) (sym header) in
    let went_on = c.note_resumed.ensures ∙ ap₂ (λ (rs : List Resumption) (o : Option Resumption). rs ++ option_to_list o) c.in_ok-reserve.ensures.items one_resumed in
    record {
      next = u;
      datagram = refl;
      at = refl;
      counts = k.counts;
      is = peer_with first v (g.F.FileSeries.seen c.append.new.self) _ (record { recorder = c.take_datagram.new.recorder; earlier = left_listed c.go_on.new.earlier.entries; known = known_shown c.keep_known.new.known; told = counts_as c.count_waiting.new.self.told c.saturating_add-self-inside.result c.note.new.self.reaches c.note_resumed.new.resumed.items; ended = c.self.inside.ended }) filed m c.args.second (resumed_for filed m) b r x c.take_datagram.new.out.items c.in_ok-count.count
          now p.read.taken k (c.in_ok-append.ensures ∙ ap (with_more v) c.deref.ensures.value) counted c.saturating_add-self-inside.ensures p.read.withdrawals noted went_on now.goes_on withdrawn kept.keeps.fits (once_again c.args.self.now.known (known_shown c.keep_known.new.known) x.header.domain m again p.is.once) (resumed_with filed m h c.requires.header ∙ ap (resumed_after filed.earlier (taken_in filed)) (sym header))
          (left_as_listed c.go_on.new.earlier filed.earlier (taken_in (filed_with filed u)) (keeps_left c.self.inside.earlier c.go_on.new.earlier filed u (left_as_kept c.self.inside.earlier filed.earlier (taken_in filed) now.left)
          (λ q. c.in_ok-go_on.ensures q ∙ ap₂ (λ (k : Header) (b : Bool). cond (eqb q k.domain) (left_after (get nat_cmp c.self.inside.earlier q) k b) (get nat_cmp c.self.inside.earlier q)) (sym header) defines)))
          (times_same c.keep_known.new.known ∙ times_with filed u (time_at c.self.inside.known.times) (time_at c.keep_known.new.known.times) h header (sym (times_same c.self.inside.known) ∙ now.times) kept.times);
      barred = where_at c.args.self.now filed c.args.second m p.header x.header b (header ∙ same_header m h p.header c.requires.header p.is_header) p.where_barred;
      has_again = again;
      budget = kept.budget ∙ ap (λ (k : KnownShown). k.budget) shown;
      reorder = kept.reorder ∙ ap (λ (k : KnownShown). k.reorder) shown;
    }
