-- A receipt that has an input which the receipts of its parts don't have.
use Rattle.std.proofs.Common.{◌≡◌, ℕ, List, Option, Some, Result, Ok, Err, map, string_bytes, ap, sym, ◌∙◌}
use Rattle.std.specs.Prelude.{IfOk}
use Rattle.std.specs.Borrow.{Bor}
use Rattle.std.specs.Option.{option_map}
use Rattle.std.specs.declared.alloc.Global.{Global}
use Rattle.std.specs.declared.string.String.{String}
use Rattle.report_writing.specs.declared.reason.Reason.{Reason}
use Rattle.receipt_merging.specs.Parts.{PartValue}
use Rattle.table_receipts.specs.Texts.{receipt_text}
use Rattle.table_receipts.specs.Values.{InputValue, ReceiptValue, input_value}
use Rattle.table_receipts.specs.declared.receipt.InputReceipt.{InputReceipt}
use Rattle.command_tables.specs.GoneInputs.{first_gone, not_left_out}
use Rattle.command_tables.specs.SaidTogether.{IsLacking, IsSettled, gone_from}
use Rattle.command_tables.specs.declared.days.standing.Standing.{Standing}
use Rattle.command_tables.specs.declared.days.standing.Standing.TheVariants.{Theirs, Others, Lacking}

pub lacks_it : (own : List ℕ) (parts : List PartValue) (receipt : ReceiptValue) → receipt_text receipt ≡ own → (input : InputValue)
    → gone_from parts receipt ≡ Some input → (answer : Result Standing Reason)
    → IfOk answer (IsLacking input.file.name) → IfOk answer (IsSettled own parts)
lacks_it own parts receipt is input gone (Ok Theirs) says = absurd says
lacks_it own parts receipt is input gone (Ok Others) says = absurd says
lacks_it own parts receipt is input gone (Ok (Lacking name)) says = record { receipt = receipt; is = is; input = input; gone = gone; named = sym says }
lacks_it own parts receipt is input gone (Err reason) says = tt

-- what is found among lists that stand for others is what is found among these
pub gone_of : (own merged left right : List InputReceipt) (out outs : List (String Global)) (others : List InputValue) (names : List (List ℕ)) (found is : Option (Bor InputReceipt))
    → left ≡ own → right ≡ merged → outs ≡ out → map input_value merged ≡ others → map string_bytes out ≡ names
    → option_map (λ (i : Bor InputReceipt). input_value i.now) found ≡ first_gone (not_left_out (map string_bytes outs) (map input_value left)) (map input_value right) → found ≡ is
    → first_gone (not_left_out names (map input_value own)) others ≡ option_map (λ (i : Bor InputReceipt). input_value i.now) is
gone_of own merged left right out outs others names found is lefts rights same values are_names first found_is =
    ap (λ (l : List InputReceipt). first_gone (not_left_out names (map input_value l)) others) (sym lefts)
    ∙ (ap (λ (l : List InputValue). first_gone (not_left_out names (map input_value left)) l) (sym values)
    ∙ (ap (λ (l : List InputReceipt). first_gone (not_left_out names (map input_value left)) (map input_value l)) (sym rights)
    ∙ (ap (λ (n : List (List ℕ)). first_gone (not_left_out n (map input_value left)) (map input_value right)) (sym are_names)
    ∙ (ap (λ (n : List (String Global)). first_gone (not_left_out (map string_bytes n) (map input_value left)) (map input_value right)) (sym same)
    ∙ (sym first ∙ ap (λ (o : Option (Bor InputReceipt)). option_map (λ (i : Bor InputReceipt). input_value i.now) o) found_is)))))
