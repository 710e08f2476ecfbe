-- Memory that has the pieces answers as they do.
use Rattle.std.proofs.Common.{◌≡◌, ℕ, ◌+◌, ◌*◌, ◌/◌, ◌<◌, List, [], ◌∷◌, length, Option, Some, None, Bool, true, false, cond, refl, sym, arith, add-zero, append-nil, inl, inr}
use Rattle.std.specs.Prelude.{nat_lt}
use Rattle.glk_base.specs.BytesAt.{IsAt}
use Rattle.glk_frames.specs.Buckets.{findfunctab, bucket_found, begin_by, begin_in, from_begin}
use Rattle.glk_frames.specs.Laws.{FramesReadBack}
use Rattle.glk_frames.specs.Memory.{read_in}
use Rattle.glk_frames.specs.Object.{Func}
use Rattle.glk_frames.specs.Region.{start_of, function_count, with_record}
use Rattle.glk_frames.specs.Written.{Record, HasTree, IsWritten}
use Rattle.glk_pctab.specs.Functions.{Pclntab, func}
use Rattle.glk_pctab.specs.Section.{module_of, section, start_in, trees}
use Rattle.glk_pctab.specs.Sound.{IsSound, AreApart, section_limit}
use Rattle.glk_pctab.proofs.FoundBack.{is_found}
use Rattle.glk_pctab.proofs.ReadBack.{record_in, is_written}
use Rattle.glk_pcln.specs.Laws.{AreReadBack}
use Rattle.glk_pcln.specs.Pieces.{HasPiece, AreSoundFunctions, buckets, module_with}
use Rattle.glk_pcln.specs.declared.module_data.ModuleAddresses.{ModuleAddresses}

with_tree : (t : Pclntab) (a : ModuleAddresses) (memory : ℕ → ℕ → Option (List ℕ)) (table : Option ℕ) (f : Func) (x : Record) → HasPiece memory (a.rodata.start + t.trees) (trees t)
    → HasTree (module_of t a.rodata.start []) f x → HasTree (module_with t a memory table) f x
with_tree t a memory table f x has tree = record {
  pcdata = tree.pcdata;
  funcdata = tree.funcdata;
  tree = tree.tree;
  pcinline = tree.pcinline;
  inside = tree.inside;
  entries = λ k node e. let h = tree.entries k node e in (h.0, h.1, has _ _ _ h.2);
}

-- a function that is written where the trees are alone is written in any memory that has them
pub with_memory : (t : Pclntab) (a : ModuleAddresses) (memory : ℕ → ℕ → Option (List ℕ)) (table : Option ℕ) (i : ℕ) (f : Func) (x : Record) → HasPiece memory (a.rodata.start + t.trees) (trees t)
    → IsWritten (module_of t a.rodata.start []) i f x → IsWritten (module_with t a memory table) i f x
with_memory t a memory table i f x has is = record {
  is_at = is.is_at;
  pcdata_few = is.pcdata_few;
  funcdata_few = is.funcdata_few;
  funcdata_fits = is.funcdata_fits;
  unit_fits = is.unit_fits;
  name = is.name;
  pcsp = is.pcsp;
  pcfile = is.pcfile;
  pcline = is.pcline;
  files = is.files;
  nodes = elim is.nodes [ inl tree ↦ inl (with_tree t a memory table f x has tree) | inr none ↦ inr none ];
}

no_choice : (b : Bool) (i : ℕ) → cond b None None ≡ Some i → ⊥
no_choice true i e = let bad : None ≡ Some i = e in cc
no_choice false i e = let bad : None ≡ Some i = e in cc

found_by_value : (r : List ℕ) (memory : ℕ → ℕ → Option (List ℕ)) (table off i : ℕ) (v : Option (List ℕ)) → ((x : List ℕ) → v ≡ Some x → memory (table + 20 * (off / 4096)) 20 ≡ Some x)
    → cond (nat_lt off (start_of r (function_count r))) (with_record r (from_begin (start_of r) off (function_count r) (begin_by off v))) None ≡ Some i
    → bucket_found r memory table off ≡ Some i
unfolding bucket_found begin_in
found_by_value r memory table off i None more found = absurd (no_choice (nat_lt off (start_of r (function_count r))) i found)
found_by_value r memory table off i (Some x) more found = rw (more x refl) found

-- what is found by buckets alone is found in any memory that has them
pub found_by : (r : List ℕ) (memory : ℕ → ℕ → Option (List ℕ)) (table : ℕ) (bytes : List ℕ) (off i : ℕ) → HasPiece memory table bytes
    → bucket_found r (read_in ((table, bytes) ∷ [])) table off ≡ Some i → bucket_found r memory table off ≡ Some i
unfolding bucket_found begin_in
found_by r memory table bytes off i has found =
    found_by_value r memory table off i (read_in ((table, bytes) ∷ []) (table + 20 * (off / 4096)) 20) (λ x e. has (table + 20 * (off / 4096)) 20 x e) found

buckets_at : (t : Pclntab) → IsAt (buckets t) 0 (findfunctab (start_in t) (length t.functions) t.text_size)
unfolding buckets
buckets_at t = record { inside = omega arith; rest = []; is = sym (append-nil (findfunctab (start_in t) (length t.functions) t.text_size)) }

pub sound_with : (t : Pclntab) → AreSoundFunctions t → length (section t) < section_limit → IsSound t
sound_with t is short = record { tables = is.tables; write = is.write; funcdata = is.funcdata; short = short }

pub reads_back : FramesReadBack → (t : Pclntab) (a : ModuleAddresses) → AreSoundFunctions t → AreApart t → length (section t) < section_limit → AreReadBack t a
reads_back law t a sound apart short = λ memory has i inside.
    let is = sound_with t sound short in
    let found = is_found t is apart a.findfunctab (buckets t) [] 0 (buckets_at t) i inside in
    record {
      frames = λ table. law (module_with t a memory table) i (func t i) (record_in t i) (with_memory t a memory table i (func t i) (record_in t i) has.trees_there (is_written t a.rodata.start [] is i inside));
      search = found.search;
      by_buckets = λ off from to. found_by (section t) memory a.findfunctab (buckets t) off i has.buckets_there (rw add-zero at (found.buckets off from to));
    }
