use Rattle.std.proofs.Common.{ℕ, ℤ, ◌≡◌, ◌+◌, ◌^◌, ◌<◌, ◌≤◌, [], ◌++◌, length, sym, ap, ◌∙◌, subst, arith, rules}
use Rattle.std.specs.Prelude.{All, FitsSigned, Err}
use Rattle.std.specs.Int.{w128}
use Rattle.std.specs.Vec.{vec_len}
use Rattle.std.proofs.lemmas.Bool.{eqb-true}
use Rattle.std.proofs.lemmas.Int.{to_z-of_z}
use Rattle.glk_reloc.specs.Fields.{IsSized, IsWithin}
use Rattle.glk_reloc.proofs.Cuts.{index_below}
use Rattle.glk_reloc.proofs.ChunkSteps.{to_none, to_next, chunk_all, chunk_apart, chunk_count, first_of_all, outside_chunk, outside_so_far, all_room, all_patched, none_left, some_left, not_none}
use Rattle.glk_reloc.proofs.chunks.patch_chunks.Goals as goal

pub loop-chunk-init : goal.loop-chunk-init
loop-chunk-init g c = to_none (g.C.FieldChunks.fields c.args.chunks.now) c.args.image.now

pub returns-in_err-next_chunk-clause-outside : goal.returns-in_err-next_chunk-clause-outside
returns-in_err-next_chunk-clause-outside g c = outside_so_far _ _ _ _ _ c.loop-chunk.invariant

pub returns-then-is_empty-clause-answer : goal.returns-then-is_empty-clause-answer
returns-then-is_empty-clause-answer g c =
    let long : vec_len c.next_chunk.new.chunk ≡ length c.next_chunk.new.chunk.items = omega (arith, c.next_chunk.new.chunk.ok.0) in
    let none : g.C.FieldChunks.fields c.loop-chunk.chunks ≡ [] =
    none_left _ c.next_chunk.new.chunk.items _ c.in_ok-next_chunk.ensures.next c.in_ok-next_chunk.ensures.last
    (sym long ∙ eqb-true (vec_len c.next_chunk.new.chunk) 0 (sym c.is_empty.ensures ∙ c.if-is_empty.true)) in
    all_room _ _ _ _ _ c.loop-chunk.invariant none

pub returns-then-is_empty-clause-patched : goal.returns-then-is_empty-clause-patched
returns-then-is_empty-clause-patched g c =
    let long : vec_len c.next_chunk.new.chunk ≡ length c.next_chunk.new.chunk.items = omega (arith, c.next_chunk.new.chunk.ok.0) in
    let none : g.C.FieldChunks.fields c.loop-chunk.chunks ≡ [] =
    none_left _ c.next_chunk.new.chunk.items _ c.in_ok-next_chunk.ensures.next c.in_ok-next_chunk.ensures.last
    (sym long ∙ eqb-true (vec_len c.next_chunk.new.chunk) 0 (sym c.is_empty.ensures ∙ c.if-is_empty.true)) in
    all_patched _ _ _ _ _ c.loop-chunk.invariant none

pub returns-then-is_empty-clause-outside : goal.returns-then-is_empty-clause-outside
returns-then-is_empty-clause-outside g c = outside_so_far _ _ _ _ _ c.loop-chunk.invariant

pub patch_all-requires-clause-few : goal.patch_all-requires-clause-few
patch_all-requires-clause-few g c κs within =
    let next : g.C.FieldChunks.fields c.loop-chunk.chunks ≡ c.deref.result.now ++ g.C.FieldChunks.fields c.next_chunk.new.self =
    c.in_ok-next_chunk.ensures.next ∙ ap (λ l. l ++ g.C.FieldChunks.fields c.next_chunk.new.self) (sym c.deref.ensures.value) in
    let e : c.loop-chunk.count + length c.deref.result.now ≤ length (g.C.FieldChunks.fields c.args.chunks.now) =
    chunk_count _ _ _ _ _ _ _ c.loop-chunk.invariant next in
    let few : length (g.C.FieldChunks.fields c.args.chunks.now) < 2 ^ 32 = c.requires.few in
    omega arith

pub patch_all-requires-clause-sizes : goal.patch_all-requires-clause-sizes
patch_all-requires-clause-sizes g c κs within =
    let next : g.C.FieldChunks.fields c.loop-chunk.chunks ≡ c.deref.result.now ++ g.C.FieldChunks.fields c.next_chunk.new.self =
    c.in_ok-next_chunk.ensures.next ∙ ap (λ l. l ++ g.C.FieldChunks.fields c.next_chunk.new.self) (sym c.deref.ensures.value) in
    chunk_all _ _ _ _ _ _ _ c.loop-chunk.invariant next IsSized c.requires.sizes

pub patch_all-requires-clause-apart : goal.patch_all-requires-clause-apart
patch_all-requires-clause-apart g c κs within =
    let next : g.C.FieldChunks.fields c.loop-chunk.chunks ≡ c.deref.result.now ++ g.C.FieldChunks.fields c.next_chunk.new.self =
    c.in_ok-next_chunk.ensures.next ∙ ap (λ l. l ++ g.C.FieldChunks.fields c.next_chunk.new.self) (sym c.deref.ensures.value) in
    chunk_apart _ _ _ _ _ _ _ c.loop-chunk.invariant next c.requires.apart

pub patch_all-requires-clause-inside : goal.patch_all-requires-clause-inside
patch_all-requires-clause-inside g c κs within =
    let next : g.C.FieldChunks.fields c.loop-chunk.chunks ≡ c.deref.result.now ++ g.C.FieldChunks.fields c.next_chunk.new.self =
    c.in_ok-next_chunk.ensures.next ∙ ap (λ l. l ++ g.C.FieldChunks.fields c.next_chunk.new.self) (sym c.deref.ensures.value) in
    let P : ℕ → Type 0 = λ n. All (IsWithin 0 n) c.deref.result.now in
    subst P (sym c.loop-chunk.invariant.patched.outside.size)
    (chunk_all _ _ _ _ _ _ _ c.loop-chunk.invariant next (IsWithin 0 (length c.args.image.now)) c.requires.inside)

pub overflow_add-result : goal.overflow_add-result
overflow_add-result g c =
    let next : g.C.FieldChunks.fields c.loop-chunk.chunks ≡ c.deref.result.now ++ g.C.FieldChunks.fields c.next_chunk.new.self =
    c.in_ok-next_chunk.ensures.next ∙ ap (λ l. l ++ g.C.FieldChunks.fields c.next_chunk.new.self) (sym c.deref.ensures.value) in
    let e : c.loop-chunk.count + length c.deref.result.now ≤ length (g.C.FieldChunks.fields c.args.chunks.now) =
    chunk_count _ _ _ _ _ _ _ c.loop-chunk.invariant next in
    let few : length (g.C.FieldChunks.fields c.args.chunks.now) < 2 ^ 32 = c.requires.few in
    let below = index_below c.deref.result.now (Err c.in-Err.overflow) c.loop-chunk.count (2 ^ 32) c.in-Err.ensures.answer (omega arith) in
    omega (arith, below)

pub returns-in-Err-clause-answer : goal.returns-in-Err-clause-answer
returns-in-Err-clause-answer g c =
    let next : g.C.FieldChunks.fields c.loop-chunk.chunks ≡ c.deref.result.now ++ g.C.FieldChunks.fields c.next_chunk.new.self =
    c.in_ok-next_chunk.ensures.next ∙ ap (λ l. l ++ g.C.FieldChunks.fields c.next_chunk.new.self) (sym c.deref.ensures.value) in
    let given : ℤ = c.in-Err.overflow.value in
    let fits : FitsSigned w128 given = search rules in
    first_of_all _ _ _ _ _ _ _ c.loop-chunk.invariant next c.in-Err.overflow _ (to_z-of_z w128 given fits) c.in-Err.ensures.answer

pub returns-in-Err-clause-outside : goal.returns-in-Err-clause-outside
returns-in-Err-clause-outside g c =
    let next : g.C.FieldChunks.fields c.loop-chunk.chunks ≡ c.deref.result.now ++ g.C.FieldChunks.fields c.next_chunk.new.self =
    c.in_ok-next_chunk.ensures.next ∙ ap (λ l. l ++ g.C.FieldChunks.fields c.next_chunk.new.self) (sym c.deref.ensures.value) in
    outside_chunk _ _ _ _ _ _ _ c.loop-chunk.invariant next c.patch_all.new.image c.in-Err.ensures.outside

pub overflow_cast-count : goal.overflow_cast-count
overflow_cast-count g c =
    let e : c.loop-chunk.count + length c.next_chunk.new.chunk.items ≤ length (g.C.FieldChunks.fields c.args.chunks.now) =
    chunk_count _ _ _ _ _ _ _ c.loop-chunk.invariant c.in_ok-next_chunk.ensures.next in
    let few : length (g.C.FieldChunks.fields c.args.chunks.now) < 2 ^ 32 = c.requires.few in
    let long : c.len.result ≡ length c.next_chunk.new.chunk.items = omega (arith, c.len.ensures, c.next_chunk.new.chunk.ok.0) in
    omega arith

pub overflow_add-count : goal.overflow_add-count
overflow_add-count g c =
    let e : c.loop-chunk.count + length c.next_chunk.new.chunk.items ≤ length (g.C.FieldChunks.fields c.args.chunks.now) =
    chunk_count _ _ _ _ _ _ _ c.loop-chunk.invariant c.in_ok-next_chunk.ensures.next in
    let few : length (g.C.FieldChunks.fields c.args.chunks.now) < 2 ^ 32 = c.requires.few in
    let long : c.len.result ≡ length c.next_chunk.new.chunk.items = omega (arith, c.len.ensures, c.next_chunk.new.chunk.ok.0) in
    omega arith

pub loop-chunk-smaller : goal.loop-chunk-smaller
loop-chunk-smaller g c =
    let long : vec_len c.next_chunk.new.chunk ≡ length c.next_chunk.new.chunk.items = omega (arith, c.next_chunk.new.chunk.ok.0) in
    some_left _ c.next_chunk.new.chunk.items _ c.in_ok-next_chunk.ensures.next
    (not_none c.next_chunk.new.chunk.items _ long (sym c.is_empty.ensures ∙ c.if-is_empty.false))

pub loop-chunk-preserved : goal.loop-chunk-preserved
loop-chunk-preserved g c =
    let next : g.C.FieldChunks.fields c.loop-chunk.chunks ≡ c.deref.result.now ++ g.C.FieldChunks.fields c.next_chunk.new.self =
    c.in_ok-next_chunk.ensures.next ∙ ap (λ l. l ++ g.C.FieldChunks.fields c.next_chunk.new.self) (sym c.deref.ensures.value) in
    let long : c.len.result ≡ length c.next_chunk.new.chunk.items = omega (arith, c.len.ensures, c.next_chunk.new.chunk.ok.0) in
    to_next _ _ _ _ _ _ _ c.loop-chunk.invariant next c.patch_all.new.image c.len.result
    (long ∙ ap length (sym c.deref.ensures.value)) c.requires.apart c.in_default.ensures.answer c.in_default.ensures.patched
