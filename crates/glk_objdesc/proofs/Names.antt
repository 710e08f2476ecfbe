-- All names of a description, and a fact of each of them.
use Rattle.std.proofs.Common.{ℕ, ◌+◌, List, [], ◌∷◌, ◌++◌, length, map, All, subst, arith, length-append}
use Rattle.std.proofs.lemmas.List.{get_or_append_left, get_or-append-add, get_or-map, length-map}
use Rattle.glk_objdesc.specs.declared.desc.ObjDesc.{ObjDesc}
use Rattle.glk_objdesc.specs.Canonical.{strings_of, autolib_path, def_name, sym_name, ref_name, all_pkgs}
use Rattle.glk_objdesc.specs.Sizes.{HasNames}

pub all_left : {X : Type 0} (P : X → Type 0) (xs ys : List X) → All P (xs ++ ys) → All P xs
all_left P xs ys all = λ k d inside. subst P (get_or_append_left xs ys d k inside) (all k d (omega (arith, inside, length-append xs ys)))

pub all_right : {X : Type 0} (P : X → Type 0) (xs ys : List X) → All P (xs ++ ys) → All P ys
all_right P xs ys all = λ k d inside. subst P (get_or-append-add xs ys k d) (all (length xs + k) d (omega (arith, inside, length-append xs ys)))

pub all_map : {X Y : Type 0} (P : Y → Type 0) (f : X → Y) (xs : List X) → All P (map f xs) → All (λ x. P (f x)) xs
all_map P f xs all = λ k d inside. subst P (get_or-map f xs k d (f d) inside) (all k (f d) (omega (arith, inside, length-map xs f)))

pub names_of : (Q : List ℕ → Type 0) (d : ObjDesc) → All Q (strings_of d) → HasNames Q d
names_of Q d all =
    let a = map autolib_path d.autolib in
    let b = a ++ all_pkgs d in
    let c = b ++ d.files in
    let e = c ++ map def_name d.defs in
    let f = e ++ map def_name d.hash64 in
    let g = f ++ map def_name d.hashed in
    let h = g ++ map def_name d.ndefs in
    let i = h ++ map sym_name d.refs in
    let ri = all_left Q i (map ref_name d.ref_names) all in
    let rh = all_left Q h (map sym_name d.refs) ri in
    let rg = all_left Q g (map def_name d.ndefs) rh in
    let rf = all_left Q f (map def_name d.hashed) rg in
    let re = all_left Q e (map def_name d.hash64) rf in
    let rc = all_left Q c (map def_name d.defs) re in
    let rb = all_left Q b d.files rc in
    let ra = all_left Q a (all_pkgs d) rb in
    record {
      autolib = all_map Q autolib_path d.autolib ra;
      pkgs = all_right Q ([] ∷ []) d.pkgs (all_right Q a (all_pkgs d) rb);
      files = all_right Q b d.files rc;
      defs = all_map Q def_name d.defs (all_right Q c (map def_name d.defs) re);
      hash64 = all_map Q def_name d.hash64 (all_right Q e (map def_name d.hash64) rf);
      hashed = all_map Q def_name d.hashed (all_right Q f (map def_name d.hashed) rg);
      ndefs = all_map Q def_name d.ndefs (all_right Q g (map def_name d.ndefs) rh);
      refs = all_map Q sym_name d.refs (all_right Q h (map sym_name d.refs) ri);
      ref_names = all_map Q ref_name d.ref_names (all_right Q i (map ref_name d.ref_names) all);
    }
