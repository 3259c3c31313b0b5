-- The table of the last of several runs, before each of which a lot more was left out.
use Rattle.std.proofs.Common.{◌≡◌, ◌<◌, ℕ, List, [], ◌∷◌, ◌++◌, length, None, Some, inl, inr, refl, sym, ap, subst, ◌∙◌, append-nil, append_assoc, arith}
use Rattle.std.specs.Prelude.{◌==◌, true, false}
use Rattle.std.proofs.lemmas.Bool.{eqb-true}
use Rattle.std.proofs.lemmas.Grind.{flat_map-append}
use Rattle.std.specs.declared.alloc.Global.{Global}
use Rattle.std.specs.declared.string.String.{String}
use Rattle.std.specs.declared.vec.Vec.{Vec}
use Rattle.ipfix_session.specs.declared.source.Source as source
use Rattle.input_sources.specs.declared.opening.OpenSource as opening
use Rattle.report_writing.specs.declared.write_lines.WriteLines as writing
use Rattle.report_writing.specs.declared.status.Status.{Status}
use Rattle.report_writing.specs.declared.status.Status.TheVariants.{Failed}
use Rattle.command_collect.specs.declared.receipts.run.Ended.{Ended}
use Rattle.command_collect.specs.declared.receipts.run.Hindrance.{Hindrance}
use Rattle.period_collect.specs.declared.kept_receipt.KeptReceipt.{KeptReceipt}
use Rattle.period_collect.specs.declared.maker.MadeTable.{MadeTable}
use Rattle.period_collect.specs.declared.maker.TableMaker.{TableMaker}
use Rattle.period_collect.specs.ManyRows.{LeavesOutForRows}
use Rattle.period_collect.specs.MadeTables.{EndsWithout, EndsWithoutSome, HasNoRest, HasNoTable, IsNotMade, IsRun, IsRunWith, IsStanding, IsTableOf, LacksRows, LeaveLots, LeavesLot, LeavesOutMore, all_out}

all_out_more : (lots : List (List ℕ)) (lot : List ℕ) → all_out (lots ++ lot ∷ []) ≡ all_out lots ++ lot
all_out_more lots lot = flat_map-append (λ (l : List ℕ). l) lots (lot ∷ []) ∙ ap (λ (last : List ℕ). all_out lots ++ last) (append-nil lot)

-- a lot of none, and one of some
pub none_in : (lot : List ℕ) → (length lot == 0) ≡ true → lot ≡ []
none_in [] is = refl
none_in (place ∷ lot) is = absurd (omega (arith, eqb-true (length (place ∷ lot)) 0 is))

pub some_in : (lot : List ℕ) → (length lot == 0) ≡ false → 0 < length lot
some_in [] is = absurd cc
some_in (place ∷ lot) is = omega arith

module _ {S O E : Type 0} {as_source : source.Ghosts S} {as_opener : opening.Ghosts O S} {as_writer : writing.Ghosts E} (begins : ℕ) (files : List (String Global)) where
  lots_more : (before between after : TableMaker S O E as_source as_opener as_writer) (out : List ℕ) (lots : List (List ℕ)) (lot : List ℕ) → LeaveLots before between begins files out lots
      → LeavesLot between after begins files (out ++ all_out lots) lot → LeaveLots before after begins files out (lots ++ lot ∷ [])
  lots_more before between after out [] lot same is = (
    after,
    subst (λ (m : TableMaker S O E as_source as_opener as_writer). LeavesLot m after begins files out lot) same
        (subst (λ (o : List ℕ). LeavesLot between after begins files o lot) (append-nil out) is),
    refl,
  )
  lots_more before between after out (first ∷ lots) lot all is = (
    all.0,
    all.1,
    lots_more all.0 between after (out ++ first) lots lot all.2
        (subst (λ (o : List ℕ). LeavesLot between after begins files o lot) (sym (append_assoc out first (all_out lots))) is),
  )

  -- ---- what a run gave

  module _ (before ran after : TableMaker S O E as_source as_opener as_writer) (out : List ℕ) (ended : Ended (Vec ℕ Global) KeptReceipt) (run : IsRun before ran begins files out ended) where
    pub lot_of_hindered : (lot : List ℕ) (hindrance : Hindrance) → ended.hindrance ≡ Some hindrance → LeavesOutMore ran after begins files out lot hindrance
        → LeavesLot before after begins files out lot
    lot_of_hindered lot hindrance is leaves = inl (record { tried = ran; hindrance = hindrance; hindered = record { ended = ended; run = run; is = is }; leaves_out = leaves })

    pub none_of_rest : (hindrance : Hindrance) → ended.hindrance ≡ Some hindrance → (status : Status) → HasNoRest status → HasNoTable before after begins files out status
    none_of_rest hindrance is status none = inr (inl (ran, hindrance, record { ended = ended; run = run; is = is }, none))

    pub none_of_run : ended.hindrance ≡ None → (status : Status) → EndsWithout ended status → HasNoTable before ran begins files out status
    none_of_run free status ends = inl (record { ended = ended; run = run; free = free; ends = ends })

    module _ (free : ended.hindrance ≡ None) (table : MadeTable) (ends : EndsWithoutSome ended out table) (told : List ℕ) (is : told ≡ table.receipt.items) where
      run_with : IsRunWith before ran begins files out table
      run_with = record { ended = ended; run = run; free = free; ends = ends }

      pub not_looked_at : (status : Status) → LacksRows ran after told status → HasNoTable before after begins files out status
      not_looked_at status lacks = inr (inr (inl (record {
        ran = ran;
        table = table;
        run = run_with;
        why = subst (λ (receipt : List ℕ). LacksRows ran after receipt status) is lacks;
      })))

      pub standing : (lot : List ℕ) → LeavesOutForRows ran after begins files out told lot → lot ≡ []
          → IsStanding before after begins files out table
      standing lot leaves none = record {
        ran = ran;
        run = run_with;
        none_goes = subst (λ (lot : List ℕ). LeavesOutForRows ran after begins files out table.receipt.items lot) none
            (subst (λ (receipt : List ℕ). LeavesOutForRows ran after begins files out receipt lot) is leaves);
      }

      pub lot_of_large : (lot : List ℕ) → LeavesOutForRows ran after begins files out told lot → 0 < length lot
          → LeavesLot before after begins files out lot
      lot_of_large lot leaves some = inr (record {
        tried = ran;
        table = table;
        run = run_with;
        leaves_out = subst (λ (receipt : List ℕ). LeavesOutForRows ran after begins files out receipt lot) is leaves;
        some = some;
      })

  -- ---- run after run

  -- what was left out so far
  pub record LeftOut (before between : TableMaker S O E as_source as_opener as_writer) (out : List ℕ) : Type 0 where
    pub lots : List (List ℕ)
    pub left_out : LeaveLots before between begins files [] lots
    pub all : out ≡ all_out lots

  pub lot_out : (before between after : TableMaker S O E as_source as_opener as_writer) (out lot longer : List ℕ) → LeftOut before between out
      → LeavesLot between after begins files out lot → longer ≡ out ++ lot → LeftOut before after longer
  lot_out before between after out lot longer left leaves longer_is = record {
    lots = left.lots ++ lot ∷ [];
    left_out = lots_more before between after [] left.lots lot left.left_out
        (subst (λ (o : List ℕ). LeavesLot between after begins files o lot) left.all leaves);
    all = longer_is ∙ ap (λ (o : List ℕ). o ++ lot) left.all ∙ sym (all_out_more left.lots lot);
  }

  module _ (before between after : TableMaker S O E as_source as_opener as_writer) (out : List ℕ) (left : LeftOut before between out) where
    pub table_of : (table : MadeTable) → IsStanding between after begins files out table → IsTableOf before after begins files table
    table_of table stands = record {
      lots = left.lots;
      between = between;
      left_out = left.left_out;
      stands = subst (λ (o : List ℕ). IsStanding between after begins files o table) left.all stands;
    }

    pub not_made : (status : Status) → HasNoTable between after begins files out status → IsNotMade before after begins files status
    not_made status lacks = record {
      lots = left.lots;
      between = between;
      left_out = left.left_out;
      ends = subst (λ (o : List ℕ). HasNoTable between after begins files o status) left.all lacks;
    }

  pub no_run : (before between : TableMaker S O E as_source as_opener as_writer) (out : List ℕ) → LeftOut before between out → IsNotMade before between begins files Failed
  no_run before between out left = not_made before between between out left Failed (inr (inr (inr (refl, refl))))
