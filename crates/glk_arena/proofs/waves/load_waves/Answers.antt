use Rattle.std.proofs.Common.{◌∙◌, ℕ, List, Option, Ok, [], refl, sym, subst, arith}
use Rattle.glk_io.specs.Contents.{Contents, IfKnown}
use Rattle.glk_io.specs.Changes.{FileState}
use Rattle.glk_arena.specs.declared.imports.ImportRef.{ImportRef}
use Rattle.glk_arena.specs.declared.waves.Loading.{Loading}
use Rattle.glk_arena.specs.World.{Package}
use Rattle.glk_arena.specs.LoadParts.{inputs_of}
use Rattle.glk_arena.specs.Waves.{LoadInputs, IsLoad}
use Rattle.glk_arena.specs.WaveLoop.{IsBetweenWaves, IsWaveOf}
use Rattle.glk_arena.proofs.WaveSteps.{loading_start, loop_end, loop_crowded, loop_more, loop_less}
use Rattle.glk_arena.proofs.waves.load_waves.Goals as goal

pub waves-init : goal.waves-init
waves-init g c =
    let inputs : LoadInputs = inputs_of c.args.main.now c.args.config.now in
    let start = loading_start inputs (g.F.Files.state c.args.files.now).contents c.in_ok-first_names.field-0 c.in_ok-first_names.ensures in
    let L : List Package → List ImportRef → Type 0 = λ l p. IsBetweenWaves inputs (g.F.Files.state c.args.files.now).contents c.in_ok-first_names.field-0 l p 0 in
    record {
      loading = subst (λ (l : List Package). L l c.new-2.result.items) (sym c.new.ensures) (subst (λ (p : List ImportRef). L [] p) (sym c.new-2.ensures.items) start);
      unchanged = refl;
    }

pub returns-then-len-packages-clause-loads : goal.returns-then-len-packages-clause-loads
returns-then-len-packages-clause-loads g c =
    let inputs : LoadInputs = inputs_of c.args.main.now c.args.config.now in
    let contents : Option Contents = (g.F.Files.state c.args.files.now).contents in
    let before : Loading = c.waves.loading in
    let now : Loading = c.in_ok-loading.loading in
    let W : FileState → Type 0 = λ s. IsWaveOf inputs s.contents before now in
    let wave = subst W c.waves.invariant.unchanged c.in_ok-loading.ensures.ok in
    let ends = loop_end inputs contents before.names now.names before.list now.list before.refs.items now.refs.items before.compared
    c.waves.invariant.loading wave.adds (omega (arith, c.len.ensures, c.if-len-packages.true, c.packages.ensures.value)) in (
      c.in_ok-loading.ensures.same ∙ c.waves.invariant.unchanged,
      subst (λ (w : List Package). IfKnown contents (λ held. IsLoad inputs held (Ok w))) (sym c.checked.ensures.same) ends,
    )

pub returns-then-len-gt-PACKAGE_LIMIT-clause-loads : goal.returns-then-len-gt-PACKAGE_LIMIT-clause-loads
returns-then-len-gt-PACKAGE_LIMIT-clause-loads g c =
    let inputs : LoadInputs = inputs_of c.args.main.now c.args.config.now in
    let contents : Option Contents = (g.F.Files.state c.args.files.now).contents in
    let before : Loading = c.waves.loading in
    let now : Loading = c.in_ok-loading.loading in
    let W : FileState → Type 0 = λ s. IsWaveOf inputs s.contents before now in
    let wave = subst W c.waves.invariant.unchanged c.in_ok-loading.ensures.ok in
    let crowd = loop_crowded inputs contents before.names now.names before.list now.list before.refs.items now.refs.items before.compared
    c.len-then-len-gt-PACKAGE_LIMIT.result c.waves.invariant.loading wave.adds c.len-then-len-gt-PACKAGE_LIMIT.ensures (omega (arith, c.len-in-waves.ensures, c.if-len-gt-PACKAGE_LIMIT.true))
    (λ e. c.if-len-packages.false (omega (arith, c.len.ensures, e, c.packages.ensures.value))) in
    (tt, (c.in_ok-loading.ensures.same ∙ c.waves.invariant.unchanged, crowd))

pub waves-preserved : goal.waves-preserved
waves-preserved g c =
    let inputs : LoadInputs = inputs_of c.args.main.now c.args.config.now in
    let contents : Option Contents = (g.F.Files.state c.args.files.now).contents in
    let before : Loading = c.waves.loading in
    let now : Loading = c.in_ok-loading.loading in
    let W : FileState → Type 0 = λ s. IsWaveOf inputs s.contents before now in
    let wave = subst W c.waves.invariant.unchanged c.in_ok-loading.ensures.ok in
    let more = loop_more inputs contents before.names now.names before.list now.list before.refs.items now.refs.items before.compared
    c.waves.invariant.loading wave.adds (omega (arith, c.len-in-waves.ensures, c.if-len-gt-PACKAGE_LIMIT.false)) (λ e. c.if-len-packages.false (omega (arith, c.len.ensures, e, c.packages.ensures.value))) in
    record {
      loading = subst (λ (k : ℕ). IsBetweenWaves inputs contents now.names now.list now.refs.items k) (sym wave.compared_is) more;
      unchanged = c.in_ok-loading.ensures.same ∙ c.waves.invariant.unchanged;
    }

pub waves-smaller : goal.waves-smaller
waves-smaller g c =
    let inputs : LoadInputs = inputs_of c.args.main.now c.args.config.now in
    let contents : Option Contents = (g.F.Files.state c.args.files.now).contents in
    let before : Loading = c.waves.loading in
    let now : Loading = c.in_ok-loading.loading in
    let W : FileState → Type 0 = λ s. IsWaveOf inputs s.contents before now in
    let wave = subst W c.waves.invariant.unchanged c.in_ok-loading.ensures.ok in
    loop_less inputs contents before.names now.names before.list now.list before.refs.items now.refs.items before.compared
    c.waves.invariant.loading wave.adds (omega (arith, c.len-in-waves.ensures, c.if-len-gt-PACKAGE_LIMIT.false))
