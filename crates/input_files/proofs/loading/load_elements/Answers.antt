use Rattle.std.proofs.Common.{ℕ, List, [], ◌++◌, Option, Some, None, map, sym, subst, append_assoc, append-nil}
use Rattle.element_registry.specs.Registries.{Known}
use Rattle.input_files.specs.Loaded.{Loads}
use Rattle.input_files.proofs.Files.{adds_then, none_left, stops_there}
use Rattle.report_writing.proofs.LinesTold.{both_told}
use Rattle.input_files.proofs.loading.load_elements.Goals as goal

pub returns-in_err-elements-clause-loads : goal.returns-in_err-elements-clause-loads
returns-in_err-elements-clause-loads g c =
    let loads = c.loop-paths.invariant.loads in
    let stops = c.in_err-elements.ensures.stops in (
      loads.0 ++ stops.0,
      subst (λ (r : Option (List Known)). Loads (g.T.ReadText.has c.args.files.now) (g.T.ReadText.refuses c.args.files.now) c.args.verbosity [] (map (λ path. path.now) c.args.paths.now) r (loads.0 ++ stops.0)) (sym c.from_residual.ensures)
          (loads.2 None stops.0 (stops_there (g.T.ReadText.has c.args.files.now) (g.T.ReadText.refuses c.args.files.now) c.args.verbosity (λ path. path.now) c.loop-paths.elements c.loop-paths.paths.now _ stops.0 c.in-len1-up.len_at_least stops.1)),
      both_told _ _ _ _ _ loads.0 stops.0 loads.1 stops.2 c.add_path.ensures.kept,
    )

pub loop-paths-preserved : goal.loop-paths-preserved
loop-paths-preserved g c =
    let Has = g.T.ReadText.has c.args.files.now in
    let Refuses = g.T.ReadText.refuses c.args.files.now in
    let loads = c.loop-paths.invariant.loads in
    let adds = c.in_ok-elements.ensures.adds in
    record {
      loads = (
        loads.0 ++ adds.0,
        both_told _ _ _ _ _ loads.0 adds.0 loads.1 adds.2 c.add_path.ensures.kept,
        λ result later rest. subst (λ (t : List ℕ). Loads Has Refuses c.args.verbosity [] (map (λ path. path.now) c.args.paths.now) result t) (sym (append_assoc loads.0 adds.0 later))
            (loads.2 result (adds.0 ++ later)
            (adds_then Has Refuses c.args.verbosity (λ path. path.now) c.loop-paths.elements c.in_ok-elements.elements c.loop-paths.paths.now _ adds.0 later result c.in-len1-up.len_at_least adds.1 rest)),
      );
      kept = λ failed. c.add_path.ensures.kept (c.loop-paths.invariant.kept failed);
    }

pub returns-clause-loads : goal.returns-clause-loads
returns-clause-loads g c =
    let Has = g.T.ReadText.has c.args.files.now in
    let Refuses = g.T.ReadText.refuses c.args.files.now in
    let loads = c.loop-paths.invariant.loads in
    let none = none_left Has Refuses c.args.verbosity (λ path. path.now) c.loop-paths.elements c.loop-paths.paths.now c.in_default.len_below in (
      loads.0,
      subst (λ (t : List ℕ). Loads Has Refuses c.args.verbosity [] (map (λ path. path.now) c.args.paths.now) (Some c.loop-paths.elements) t) (append-nil loads.0) (loads.2 (Some c.loop-paths.elements) [] none),
      loads.1,
    )
