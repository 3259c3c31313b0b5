-- Putting records one by one.
use Rattle.std.proofs.Common.{◌≡◌, ℕ, ◌+◌, List, [], ◌∷◌, ◌++◌, length, sym, ap, ◌∙◌, append_assoc, arith}
use Rattle.std.proofs.lemmas.List.{length-append}
use Rattle.std.proofs.lemmas.Fn.{FoldsTo-push}
use Rattle.ipfix_message.specs.declared.record.DataRecord.{DataRecord}
use Rattle.ipfix_session.specs.Ledger.{capped}
use Rattle.ipfix_session.specs.Sinks.{SinkView, Takes}
use Rattle.ipfix_session.specs.Puts.{CountsOn}

-- the first records were put, and these are left
pub record Putting {K : Type 0} (view : SinkView K) (records : List DataRecord) (old now : ℕ) (before after : K) (left : List DataRecord) (size : ℕ) : Type 0 where
  pub put : List DataRecord
  pub whole : records ≡ put ++ left
  pub takes : Takes view before put after
  pub counted : CountsOn old (length put) now
  pub sized : size ≡ length left

pub put_next : {K : Type 0} (view : SinkView K) (records left rest : List DataRecord) (old now next size less : ℕ) (before after last : K) (item : DataRecord)
    → Putting view records old now before after left size → left ≡ item ∷ rest → less + 1 ≡ size → view.took after item last → view.refused last ≡ view.refused after → next ≡ capped (now + 1)
    → Putting view records old next before last rest less
put_next view records left rest old now next size less before after last item p e n t r c =
    let grown : length (p.put ++ item ∷ []) ≡ length p.put + 1 = omega (arith, length-append p.put (item ∷ [])) in
    let smaller : length left ≡ length rest + 1 = omega (arith, ap length e) in
    record {
      put = p.put ++ item ∷ [];
      whole = p.whole ∙ ap (λ (rs : List DataRecord). p.put ++ rs) e ∙ sym (append_assoc p.put (item ∷ []) rest);
      takes = record { chain = FoldsTo-push view.took before p.put after item last p.takes.chain t; none_refused = r ∙ p.takes.none_refused };
      counted = λ m h. let was = p.counted m h in omega (arith, was, c, grown);
      sized = omega (arith, p.sized, smaller, n);
    }
