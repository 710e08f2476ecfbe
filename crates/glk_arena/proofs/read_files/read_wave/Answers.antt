use Rattle.std.proofs.Common.{◌≡◌, ◌<◌, ◌∙◌, ◌+◌, ◌-◌, ◌∷◌, ◌++◌, [], List, ℕ, Err, length, drop, get_or, ap, sym, subst, arith}
use Rattle.std.specs.List.{sum_by}
use Rattle.std.proofs.lemmas.List.{length_push}
use Rattle.std.proofs.lemmas.List.Sums.{sum_by_push}
use Rattle.glk_base.specs.Limits.{file_limit}
use Rattle.glk_io.specs.Changes.{FileState}
use Rattle.glk_cause.specs.Reading.{ReadsWhole}
use Rattle.glk_arena.specs.Waves.{LoadInputs, file_of}
use Rattle.glk_arena.specs.LoadParts.{inputs_by}
use Rattle.glk_arena.proofs.ReadLemmas.{ReadsOn, IsFileOf, reads_more, reads_exit, reads_end}
use Rattle.glk_arena.proofs.read_files.read_wave.Goals as goal

pub returns-in_err-file-clause-reads : goal.returns-in_err-file-clause-reads
returns-in_err-file-clause-reads g c =
    let inputs : LoadInputs = inputs_by c.args.loader in
    let inside : c.loop-i.i < length c.args.names.now = omega (arith, c.len-i-end.ensures, c.loop-i-test.true) in
    let lies : c.file_of-path.result.now ≡ file_of inputs (get_or c.args.names.now c.loop-i.i []) = c.file_of-path.ensures ∙ ap (file_of inputs) c.get.ensures in
    let W : FileState → Type 0 = λ s. ReadsWhole s (g.F.Files.state c.read_named.new.files) c.file_of-path.result.now c.loop-i.left file_limit (Err c.in_err-file.field-0.0) in
    let is = subst W c.loop-i.invariant.unchanged c.in_err-file.ensures.reads in
    reads_exit inputs (g.F.Files.state c.args.files.now) (g.F.Files.state c.read_named.new.files) c.args.limit c.loop-i.left c.loop-i.i (drop c.args.from c.args.names.now) c.args.names.now c.loop-i.wave.items _
    c.file_of-path.result.now c.from_residual.result c.in_err-file.field-0.0 c.from_residual.ensures.1 inside lies (c.requires.files c.loop-i.i [] inside) c.loop-i.invariant.on is

pub loop-i-preserved : goal.loop-i-preserved
loop-i-preserved g c =
    let inputs : LoadInputs = inputs_by c.args.loader in
    let inside : c.loop-i.i < length c.args.names.now = omega (arith, c.len-i-end.ensures, c.loop-i-test.true) in
    let lies : c.file_of-path.result.now ≡ file_of inputs (get_or c.args.names.now c.loop-i.i []) = c.file_of-path.ensures ∙ ap (file_of inputs) c.get.ensures in
    let wave : c.push_back.new.self.items ≡ c.loop-i.wave.items ++ c.in_ok-file.file ∷ [] = c.in_ok-push_back.ensures.items ∙ ap (λ (f : List ℕ). c.loop-i.wave.items ++ f ∷ []) c.new.ensures in
    let size = ap (sum_by length) wave ∙ sum_by_push length c.loop-i.wave.items c.in_ok-file.file in
    let count = ap length wave ∙ length_push c.loop-i.wave.items c.in_ok-file.file in
    let short : length c.as_bytes.result.now ≡ length c.in_ok-file.file = ap length c.as_bytes.ensures in
    let I : FileState → Type 0 = λ s. IsFileOf s.contents c.file_of-path.result.now c.loop-i.left c.in_ok-file.file in
    let is = subst I c.loop-i.invariant.unchanged c.in_ok-file.ensures.reads.1 in
    let on = reads_more inputs (g.F.Files.state c.args.files.now).contents c.args.limit c.loop-i.left c.loop-i.i (drop c.args.from c.args.names.now) c.args.names.now c.loop-i.wave.items c.file_of-path.result.now c.in_ok-file.file inside lies is c.loop-i.invariant.on in
    let P : ℕ → List (List ℕ) → Type 0 = λ n w. ReadsOn inputs (g.F.Files.state c.args.files.now).contents c.args.limit n (drop c.args.from c.args.names.now) (drop (c.loop-i.i + 1) c.args.names.now) w in
    let less : c.loop-i.left - length c.in_ok-file.file ≡ c.loop-i.left - length c.as_bytes.result.now = ap (λ n. c.loop-i.left - n) (sym short) in
    record {
      size = omega (arith, size, short, c.in_ok-file.ensures.short, c.loop-i.invariant.size);
      all = omega (arith, count, c.loop-i.invariant.all);
      on = subst (λ (w : List (List ℕ)). P (c.loop-i.left - length c.as_bytes.result.now) w) (sym wave) (subst (λ (n : ℕ). P n (c.loop-i.wave.items ++ c.in_ok-file.file ∷ [])) less on);
      unchanged = c.in_ok-file.ensures.reads.0 ∙ c.loop-i.invariant.unchanged;
    }

pub returns-clause-reads : goal.returns-clause-reads
returns-clause-reads g c = (
  c.loop-i.invariant.unchanged,
  reads_end (inputs_by c.args.loader) (g.F.Files.state c.args.files.now).contents c.args.limit c.loop-i.left c.loop-i.i (drop c.args.from c.args.names.now) c.args.names.now c.loop-i.wave.items
      (omega (arith, c.len-i-end.ensures, c.loop-i-test.false)) c.loop-i.invariant.on,
)
