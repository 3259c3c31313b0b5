-- The messages of rows, one after another.
use Rattle.std.proofs.Common.{◌≡◌, ℕ, zero, suc, ◌+◌, ◌-◌, ◌*◌, ◌≤◌, List, [], ◌∷◌, ◌++◌, length, take, drop, Option, refl, sym, ap, ap₂, subst, ◌∙◌, add-one, length-take-le, take-add, drop_at, arith}
use Rattle.std.specs.Io.KnownBytes.{Appends}
use Rattle.std.specs.List.{flat_map, range_with_len}
use Rattle.std.proofs.KnownBytes.{Appends-trans}
use Rattle.std.proofs.lemmas.List.{append-nil, drop-drop}
use Rattle.std.proofs.lemmas.Grind.{flat_map-append}
use Rattle.flow_table.specs.Plans.{PlanValue}
use Rattle.flow_table.specs.SameTables.{RowValue}
use Rattle.ipfix_elements.specs.Placed.{Placed}
use Rattle.flow_export.specs.declared.ipfix_text.rows.TheConstants.{ROWS_A_MESSAGE}
use Rattle.flow_export.specs.IpfixText.{data_message_in, message, message_of_rows_in}
use Rattle.flow_export.specs.declared.intervals.Intervals.{Intervals}
use Rattle.flow_export.specs.RowOctets.{headers_octets}

range_more : (a n : ℕ) → range_with_len a (suc n) ≡ range_with_len a n ++ (a + n) ∷ []
range_more a zero = ap (λ (k : ℕ). k ∷ []) (omega arith)
range_more a (suc n) = ap (λ (ks : List ℕ). a ∷ ks) (range_more (a + 1) n ∙ ap (λ (k : ℕ). range_with_len (a + 1) n ++ k ∷ []) (omega arith))

-- one more text, after those of the numbers below
texts_more : (text : ℕ → List ℕ) (i : ℕ) (a b c : Option (List ℕ)) → Appends a b (flat_map text (range_with_len 0 i)) → Appends b c (text i) → Appends a c (flat_map text (range_with_len 0 (i + 1)))
texts_more text i a b c before here =
    let all : flat_map text (range_with_len 0 i) ++ text i ≡ flat_map text (range_with_len 0 (i + 1)) =
    ap (λ (t : List ℕ). flat_map text (range_with_len 0 i) ++ t) (sym (append-nil (text i))) ∙ sym (flat_map-append text (range_with_len 0 i) (i ∷ []))
    ∙ ap (λ (k : ℕ). flat_map text (range_with_len 0 i ++ k ∷ [])) (omega arith) ∙ ap (flat_map text) (sym (range_more 0 i)) ∙ rw (add-one i) refl in
    subst (λ (t : List ℕ). Appends a c t) all (Appends-trans a b c (flat_map text (range_with_len 0 i)) (text i) before here)

-- what was written is a message
pub message_written : (time sequence id : ℕ) (a b : Option (List ℕ)) (out octets body text : List ℕ) → out ≡ octets → octets ≡ message time sequence id body → body ≡ text
    → Appends a b out → Appends a b (message time sequence id text)
message_written time sequence id a b out octets body text is_out is_octets is_body written =
    subst (λ (t : List ℕ). Appends a b t) (is_out ∙ is_octets ∙ ap (message time sequence id) is_body) written

-- one more message, after those before it
pub message_more : (intervals : Intervals) (plan : PlanValue) (time : ℕ) (all left : List RowValue) (i sequence : ℕ) (a b c : Option (List ℕ)) (out : List ℕ) → sequence ≡ ROWS_A_MESSAGE * i → left ≡ drop (ROWS_A_MESSAGE * i) all
    → out ≡ data_message_in intervals plan time sequence (take ROWS_A_MESSAGE left)
    → Appends a b (flat_map (message_of_rows_in intervals plan time all) (range_with_len 0 i)) → Appends b c out
    → Appends a c (flat_map (message_of_rows_in intervals plan time all) (range_with_len 0 (i + 1)))
message_more intervals plan time all left i sequence a b c out is_sequence is_left is_message before here =
    let next : out ≡ message_of_rows_in intervals plan time all i =
    is_message ∙ ap (λ (n : ℕ). data_message_in intervals plan time n (take ROWS_A_MESSAGE left)) is_sequence
    ∙ ap (λ (rows : List RowValue). data_message_in intervals plan time (ROWS_A_MESSAGE * i) (take ROWS_A_MESSAGE rows)) is_left in
    texts_more (message_of_rows_in intervals plan time all) i a b c before (subst (λ (t : List ℕ). Appends b c t) next here)

-- a hundred more were passed over
pub hundred_more : (all left rest : List RowValue) (i : ℕ) → left ≡ drop (ROWS_A_MESSAGE * i) all → rest ≡ drop ROWS_A_MESSAGE left → rest ≡ drop (ROWS_A_MESSAGE * (i + 1)) all
hundred_more all left rest i is_left is_rest =
    is_rest ∙ ap (drop ROWS_A_MESSAGE) is_left ∙ drop-drop ROWS_A_MESSAGE (ROWS_A_MESSAGE * i) all ∙ ap (λ (n : ℕ). drop n all) (omega arith)

-- the headers and the body of a message, one after the other
pub headers_and_body : (time sequence id n : ℕ) (headers octets body : List ℕ) → n ≡ length body → headers ≡ headers_octets time sequence id n → octets ≡ headers ++ body → octets ≡ message time sequence id body
headers_and_body time sequence id n headers octets body is_n is_headers is_octets =
    let named : headers ≡ headers_octets time sequence id (length body) = is_headers ∙ ap (headers_octets time sequence id) is_n in
    is_octets ∙ ap (λ (t : List ℕ). t ++ body) named

-- headers that are written before a body that stands in its place
pub message_placed : {a b c text headers : List ℕ} {end k : ℕ} (time sequence id : ℕ) → 20 ≤ length a → Placed a b 20 text end → headers ≡ headers_octets time sequence id (end - 20)
    → Placed b c 0 headers k → take end c ≡ message time sequence id text
message_placed {a} {b} {c} {text} {headers} {end} {k} time sequence id room rows is_headers front =
    let n = length text in
    let at_end : end ≡ 20 + n = rows.moved in
    let size : end - 20 ≡ n = omega (arith, at_end) in
    let twenty : length headers ≡ 20 = ap length is_headers in
    let is_k : k ≡ 20 = omega (arith, front.moved, twenty) in
    let before : take 20 c ≡ headers = ap (λ (m : ℕ). take m c) (sym is_k) ∙ front.written in
    let after : drop 20 c ≡ drop 20 b = ap (λ (m : ℕ). drop m c) (sym is_k) ∙ front.behind ∙ ap (λ (m : ℕ). drop m b) is_k in
    let long_a : length (take 20 a) ≡ 20 = length-take-le 20 a room in
    let long_b : length (take 20 b) ≡ 20 = length-take-le 20 b (omega (arith, room, rows.room)) in
    let parts : take 20 a ++ text ≡ take 20 b ++ take n (drop 20 b) = sym rows.written ∙ ap (λ (m : ℕ). take m b) at_end ∙ take-add 20 n b in
    let is_text : text ≡ take n (drop 20 b) = sym (drop_at (take 20 a) text 20 long_a) ∙ ap (drop 20) parts ∙ drop_at (take 20 b) (take n (drop 20 b)) 20 long_b in
    let whole : take end c ≡ headers ++ text = ap (λ (m : ℕ). take m c) at_end ∙ take-add 20 n c ∙ ap₂ (λ (x y : List ℕ). x ++ y) before (ap (take n) after ∙ sym is_text) in
    headers_and_body time sequence id (end - 20) headers (take end c) text size is_headers whole
