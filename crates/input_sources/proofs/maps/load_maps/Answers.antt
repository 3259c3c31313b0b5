use Rattle.std.proofs.Common.{◌≡◌, ℕ, List, [], ◌∷◌, ◌++◌, map, refl, sym, subst, ap, ◌∙◌, append_assoc, append-nil, inl, inr}
use Rattle.input_sources.specs.declared.maps.LoadedMap.{LoadedMap}
use Rattle.std.specs.Prelude.{slice_index_or}
use Rattle.report_writing.proofs.LinesTold.{is_told}
use Rattle.input_sources.specs.MapLines.{file_line}
use Rattle.input_sources.specs.MapsLoaded.{AreMapsOf}
use Rattle.input_sources.specs.declared.maps.TheConstants.{WITHOUT_MEMORY}
use Rattle.input_sources.proofs.MapsRead.{maps_then, no_more, none_here, none_later}
use Rattle.input_sources.proofs.maps.load_maps.Goals as goal

pub loop-left-init : goal.loop-left-init
loop-left-init g c = record { maps = λ more are. subst (λ (l : List LoadedMap). AreMapsOf (g.T.ReadText.has c.args.files.now) (map (λ path. path.now) c.args.paths.now) (l ++ more)) (sym c.new-maps.ensures.items) are; none = λ lines none. none; silent = refl }

pub returns-in_default-load_map-clause-told : goal.returns-in_default-load_map-clause-told
returns-in_default-load_map-clause-told g c =
    let Has = g.T.ReadText.has c.args.files.now in
    let Refuses = g.T.ReadText.refuses c.args.files.now in
    let inv = c.loop-left.invariant in
    let told = rw inv.silent at c.in_default-load_map.ensures.told in
    (told.0, inv.none told.0 (none_here Has Refuses c.args.verbosity (λ path. path.now) c.loop-left.left.now _ told.0 c.in-len1-up.len_at_least told.1), told.2)

pub returns-in_default-push-clause-told : goal.returns-in_default-push-clause-told
returns-in_default-push-clause-told g c =
    let Has = g.T.ReadText.has c.args.files.now in
    let Refuses = g.T.ReadText.refuses c.args.files.now in
    let inv = c.loop-left.invariant in
    let had = c.in-Some.ensures.map in
    let lines = file_line (slice_index_or c.loop-left.left.now 0 _).now WITHOUT_MEMORY in
    let none = none_here Has Refuses c.args.verbosity (λ path. path.now) c.loop-left.left.now _ lines c.in-len1-up.len_at_least (inr (had.0, had.1, (WITHOUT_MEMORY, tt, refl))) in
    let told = is_told _ _ _ c.write_file_fault.result _ c.write_file_fault.ensures.told c.write_file_fault.ensures.failed in
    (lines, inv.none lines none, rw (c.in-Some.ensures.silent ∙ inv.silent) at told)

pub loop-left-preserved : goal.loop-left-preserved
loop-left-preserved g c =
    let Has = g.T.ReadText.has c.args.files.now in
    let Refuses = g.T.ReadText.refuses c.args.files.now in
    let inv = c.loop-left.invariant in
    let is = c.in-Some.ensures.map in
    record {
      maps = λ more rest. subst (λ (l : List LoadedMap). AreMapsOf Has (map (λ path. path.now) c.args.paths.now) l)
          (sym (ap (λ (l : List LoadedMap). l ++ more) c.in-Ok.ensures.items ∙ append_assoc c.loop-left.maps.items (c.in-Some.map ∷ []) more))
          (inv.maps (c.in-Some.map ∷ more) (maps_then Has (λ path. path.now) c.loop-left.left.now _ c.in-Some.map more c.in-len1-up.len_at_least is rest));
      none = λ lines rest. inv.none lines (none_later Has Refuses c.args.verbosity (λ path. path.now) c.loop-left.left.now _ c.in-Some.map lines c.in-len1-up.len_at_least is rest);
      silent = c.in-Some.ensures.silent ∙ inv.silent;
    }

pub returns-clause-maps : goal.returns-clause-maps
returns-clause-maps g c =
    let Has = g.T.ReadText.has c.args.files.now in
    subst (λ (l : List LoadedMap). AreMapsOf Has (map (λ path. path.now) c.args.paths.now) l) (append-nil c.loop-left.maps.items)
    (c.loop-left.invariant.maps [] (no_more Has (λ path. path.now) c.loop-left.left.now c.in_default.len_below))
