use Rattle.std.proofs.Common.{ap, map, ◌∙◌, List, ℕ}
use Rattle.std.proofs.lemmas.List.{map-id}
use Rattle.glk_objdesc.specs.Canonical.{autolib_path, def_name, sym_name, ref_name}
use Rattle.glk_objdesc.proofs.PoolLemmas.{pool_is}
use Rattle.glk_objdesc.proofs.pool.pool_of.Goals as goal

pub returns : goal.returns
returns c =
    let same = λ (s : List ℕ). s in
    pool_is c.args.d.now c.new-pool.result c.add_names.new.pool c.add_names-2.new.pool c.add_names-3.new.pool c.add_names-4.new.pool c.add_names-5.new.pool c.add_names-6.new.pool c.add_names-7.new.pool c.add_names-8.new.pool c.add_names-9.new.pool
    (map autolib_path c.as_slice.result.now) (map same c.as_slice-2.result.now) (map same c.as_slice-3.result.now) (map def_name c.as_slice-4.result.now) (map def_name c.as_slice-5.result.now) (map def_name c.as_slice-6.result.now) (map def_name c.as_slice-7.result.now) (map sym_name c.as_slice-8.result.now) (map ref_name c.as_slice-9.result.now)
    c.new-pool.ensures c.in_ok-add_names.ensures (ap (map autolib_path) c.as_slice.ensures) c.in_ok-add_names-2.ensures (map-id c.as_slice-2.result.now ∙ c.as_slice-2.ensures) c.in_ok-add_names-3.ensures (map-id c.as_slice-3.result.now ∙ c.as_slice-3.ensures) c.in_ok-add_names-4.ensures (ap (map def_name) c.as_slice-4.ensures) c.in_ok-add_names-5.ensures (ap (map def_name) c.as_slice-5.ensures) c.in_ok-add_names-6.ensures (ap (map def_name) c.as_slice-6.ensures) c.in_ok-add_names-7.ensures (ap (map def_name) c.as_slice-7.ensures) c.in_ok-add_names-8.ensures (ap (map sym_name) c.as_slice-8.ensures) c.in_ok-add_names-9.ensures (ap (map ref_name) c.as_slice-9.ensures)
