-- The section and the trees have all that frames are read from.
use Rattle.std.proofs.Common.{◌≡◌, ℕ, zero, suc, ◌+◌, ◌*◌, ◌<◌, List, [], ◌∷◌, ◌++◌, length, map, get_or, Some, refl, sym, ap, subst, ◌∙◌, arith, true, false, inl, inr, ◌⊎◌, lit<, length-append, ℤ, pos}
use Rattle.std.specs.Prelude.{nat_lt}
use Rattle.std.proofs.lemmas.List.{append-nil, length-map}
use Rattle.std.proofs.lemmas.Bool.{cases_lt}
use Rattle.glk_base.specs.BytesAt.{IsAt}
use Rattle.glk_base.specs.Fields.{fields_bytes, u32}
use Rattle.glk_base.proofs.BytesAt.{is_at_here, is_at_part, length_fields, field_read}
use Rattle.glk_pcval.specs.Table.{IsTable, value_of}
use Rattle.glk_frames.specs.Chain.{at_index}
use Rattle.glk_frames.specs.Memory.{read_in}
use Rattle.glk_frames.specs.Object.{Node}
use Rattle.glk_frames.specs.Region.{record_offset, funcnametab_offset, cutab_offset, filetab_offset, pctab_offset}
use Rattle.glk_frames.specs.Image.{no_funcdata}
use Rattle.glk_frames.specs.Written.{Record, record_bytes, u32s_bytes, Entry, entry_fields, tree_bytes, IsNameAt, IsTableAt, IsFileAt, EntryIn, HasTree, HasNoTree, IsWritten}
use Rattle.glk_frames.proofs.AtLemmas.{is_at_after, is_at_inside, u32_is_at}
use Rattle.glk_frames.proofs.TreeLemmas.{tree_entry}
use Rattle.glk_pctab.specs.FirstUse.{concat_of, is_among, offset_in}
use Rattle.glk_pctab.specs.Functions.{Pclntab, Function, InlinedCall, func, function, no_function, pcdata_by, pcdata_of, funcdata_by, funcdata_of, set_at, tree_offset, unit_files, first_entry, entries_named}
use Rattle.glk_pctab.specs.Section.{zero_byte, module_of, names, files, tables, entries, files_of, names_of, tables_of, named_files, is_number_among, name_offset, table_offset, file_offset, record_of, tree_entry_of, trees_of, trees, records_from, records, record_offsets, functab, starts, pclntable, pclntable_at, cutab_at, filetab_at, pctab_at, section}
use Rattle.glk_pctab.specs.Sound.{IsSound, section_limit}
use Rattle.glk_pctab.proofs.FirstUseLemmas.{element_is_at, each_has, among_first, among_next}
use Rattle.glk_pctab.proofs.ListLemmas.{map_get, at_get, at_map, at_unmap, at_inside, set_get, set_long, set_among}
use Rattle.glk_pctab.proofs.MemberLemmas.{names_have, calls_have, tables_have, own_tables, table_kept, files_have, value_names, function_names, entry_there, unit_file, unit_inside, length_entries}
use Rattle.glk_pctab.proofs.OffsetLemmas.{is_at_equal, before_is_at, record_is_at, functab_pair}
use Rattle.glk_pctab.proofs.SectionLemmas.{offsets, same_length, length_starts, length_records, length_all_functab, names_end, names_before, cutab_end, filetab_after, files_end, tables_end, pclntable_end, names_read, cutab_read, filetab_read, pctab_read, pclntable_read, names_are_at, cutab_is_at, files_are_at, tables_are_at, pclntable_is_at}

-- ---- records and trees
record_get : (units : List (List (List ℕ))) (ns ts : List (List ℕ)) (tree : ℕ) (fs : List Function) (i : ℕ) → i < length fs
    → get_or (records_from units ns ts tree fs) i [] ≡ record_bytes (record_of units ns ts (tree_offset tree fs i) (get_or fs i no_function))
unfolding records_from
record_get units ns ts tree [] i inside = absurd (omega arith)
record_get units ns ts tree (f ∷ fs) zero inside = refl
record_get units ns ts tree (f ∷ fs) (suc i) inside = record_get units ns ts (tree + 16 * length f.inlined) fs i (omega arith)

pub length_tree : (es : List Entry) → length (tree_bytes es) ≡ 16 * length es
unfolding tree_bytes
length_tree [] = refl
length_tree (e ∷ es) = omega (arith, length-append (fields_bytes (entry_fields e)) (tree_bytes es), length_fields (entry_fields e), length_tree es)

tree_is_at : (ns : List (List ℕ)) (from : ℕ) (fs : List Function) (i : ℕ) → i < length fs
    → (k : ℕ) × (tree_offset from fs i ≡ from + k) × IsAt (trees_of ns fs) k (tree_bytes (map (tree_entry_of ns) (get_or fs i no_function).inlined))
unfolding trees_of
tree_is_at ns from [] i inside = absurd (omega arith)
tree_is_at ns from (f ∷ fs) zero inside = (0, omega arith, is_at_here [] (tree_bytes (map (tree_entry_of ns) f.inlined)) (trees_of ns fs))
tree_is_at ns from (f ∷ fs) (suc i) inside =
    let h = tree_is_at ns (from + 16 * length f.inlined) fs i (omega arith) in
    let before = tree_bytes (map (tree_entry_of ns) f.inlined) in
    let size : length before ≡ 16 * length f.inlined = length_tree (map (tree_entry_of ns) f.inlined) ∙ ap (λ k. 16 * k) (length-map f.inlined (tree_entry_of ns)) in
    (length before + h.0, omega (arith, h.1, size), is_at_after before (trees_of ns fs) h.0 _ h.2)

-- the record of function i
abbrev pub record_in : Pclntab → ℕ → Record
record_in t i = record_of t.units (names t) (tables t) (tree_offset t.trees t.functions i) (function t i)

-- ---- the parts of one function
module _ (t : Pclntab) (short : length (section t) < section_limit) where
  pub pair_is_at : (j : ℕ) → j < length t.functions → IsAt (section t) (pclntable_at t + 8 * j) (fields_bytes (u32 (get_or (starts t.functions) j 0) ∷ u32 (get_or (offsets t) j 0) ∷ []))
  unfolding pclntable
  pair_is_at j inside =
      let table = functab (starts t.functions) (offsets t) t.text_size in
      let pair = functab_pair (starts t.functions) (offsets t) t.text_size j (omega (arith, length_starts t, inside)) (same_length t) in
      is_at_part (section t) (pclntable_at t) (8 * j) (pclntable t) _ (pclntable_is_at t) (before_is_at (records t) table (8 * j) _ pair)

  record_in_pclntable : (j : ℕ) → j < length t.functions → IsAt (pclntable t) (get_or (offsets t) j 0) (record_bytes (record_in t j))
  unfolding pclntable records
  record_in_pclntable j inside =
      let table = functab (starts t.functions) (offsets t) t.text_size in
      let bytes = record_get t.units (names t) (tables t) t.trees t.functions j inside in
      let is_at = record_is_at (records t) table j (omega (arith, inside, length_records t)) in
      let at : IsAt (pclntable t) (get_or (offsets t) j 0) (get_or (records t) j []) = subst (λ (n : ℕ). IsAt (pclntable t) (get_or (record_offsets (records t) n) j 0) (get_or (records t) j [])) (length_all_functab t) is_at in
      subst (λ (x : List ℕ). IsAt (pclntable t) (get_or (offsets t) j 0) x) bytes at

  record_read : (j : ℕ) → j < length t.functions → record_offset (section t) j ≡ pclntable_at t + get_or (offsets t) j 0
  unfolding record_offset
  record_read j inside =
      let low = is_at_inside (pclntable t) (get_or (offsets t) j 0) (record_bytes (record_in t j)) (record_in_pclntable j inside) in
      rw (pclntable_read t short) (ap (λ k. pclntable_at t + k)
      (field_read (u32 (get_or (starts t.functions) j 0) ∷ []) [] 4 (get_or (offsets t) j 0) (section t) (pclntable_at t + 8 * j) (pclntable_at t + 8 * j + 4) (pair_is_at j inside) (omega arith) (omega (arith, low, pclntable_end t, short))))

  record_there : (j : ℕ) → j < length t.functions → IsAt (section t) (record_offset (section t) j) (record_bytes (record_in t j))
  record_there j inside =
      is_at_equal (section t) (pclntable_at t + get_or (offsets t) j 0) (record_offset (section t) j) _ (sym (record_read j inside))
      (is_at_part (section t) (pclntable_at t) (get_or (offsets t) j 0) (pclntable t) _ (pclntable_is_at t) (record_in_pclntable j inside))

  name_there : (name : List ℕ) → is_among (names_of t.functions) name ≡ true → IsNameAt (section t) (name_offset (names t) name) name
  unfolding name_offset
  name_there name has =
      let k = offset_in zero_byte (names t) name in
      let s : IsAt (concat_of zero_byte (names t)) k (name ++ zero_byte) = element_is_at zero_byte (names t) name (each_has [] (names_of t.functions) name has) in
      record {
        fits = omega (arith, s.inside, names_end t, short);
        is_at = is_at_equal (section t) (72 + k) (funcnametab_offset (section t) + k) _ (ap (λ n. n + k) (sym (names_read t short))) (is_at_part (section t) 72 k (concat_of zero_byte (names t)) _ (names_are_at t) s);
      }

  table_there : (q : List ℕ) → is_among (tables_of t.functions) q ≡ true → IsTable q → IsTableAt (section t) (table_offset (tables t) q) q
  unfolding table_offset
  table_there [] has whole = (lit< tt, inl (refl, refl))
  table_there (b ∷ q) has whole =
      let k = offset_in [] (tables t) (b ∷ q) in
      let s : IsAt (concat_of [] (tables t)) k ((b ∷ q) ++ []) = element_is_at [] (tables t) (b ∷ q) (table_kept (tables_of t.functions) b q has) in
      let s' : IsAt (concat_of [] (tables t)) k (b ∷ q) = subst (λ (x : List ℕ). IsAt (concat_of [] (tables t)) k x) (append-nil (b ∷ q)) s in
      let e : pctab_at t + 1 + k ≡ pctab_offset (section t) + (1 + k) = omega (arith, pctab_read t short) in (
        omega (arith, s.inside, tables_end t, short),
        inr (record {
          some = λ bad. omega (arith, ap (λ (x : List ℕ). length x) bad);
          later = omega arith;
          whole = whole;
          is_at = is_at_equal (section t) (pctab_at t + 1 + k) (pctab_offset (section t) + (1 + k)) (b ∷ q) e (is_at_part (section t) (pctab_at t + 1) k (concat_of [] (tables t)) (b ∷ q) (tables_are_at t) s');
        }),
      )

  file_there : (k : ℕ) (name : List ℕ) → at_index (entries t) k ≡ Some (Some name) → IsFileAt (section t) k name
  unfolding name_offset
  file_there k name has =
      let p = offset_in zero_byte (files t) name in
      let s : IsAt (concat_of zero_byte (files t)) p (name ++ zero_byte) = element_is_at zero_byte (files t) name (each_has [] (named_files (entries t)) name (files_have (entries t) k name has)) in
      let got = at_get (file_offset (files t)) (entries t) k (Some name) 0 has in
      let words = map (file_offset (files t)) (entries t) in
      let entry : IsAt (u32s_bytes words) (4 * k) (fields_bytes (u32 (get_or words k 0) ∷ [])) = u32_is_at words k (omega (arith, got.0, length-map (entries t) (file_offset (files t)))) in
      let entry' : IsAt (u32s_bytes words) (4 * k) (fields_bytes (u32 p ∷ [])) = subst (λ (n : ℕ). IsAt (u32s_bytes words) (4 * k) (fields_bytes (u32 n ∷ []))) got.1 entry in
      record {
        offset = p;
        fits = omega (arith, s.inside, names_before t, filetab_after t, files_end t, short);
        entry = is_at_equal (section t) (cutab_at t + 4 * k) (cutab_offset (section t) + 4 * k) _ (ap (λ n. n + 4 * k) (sym (cutab_read t short))) (is_at_part (section t) (cutab_at t) (4 * k) (u32s_bytes words) _ (cutab_is_at t) entry');
        is_at = is_at_equal (section t) (filetab_at t + p) (filetab_offset (section t) + p) _ (ap (λ n. n + p) (sym (filetab_read t short))) (is_at_part (section t) (filetab_at t) p (concat_of zero_byte (files t)) _ (files_are_at t) s);
      }

abbrev pub has_tree_at : Pclntab → ℕ → ℕ → List (ℕ × List ℕ) → Type 0
has_tree_at t i base others = HasTree (module_of t base others) (func t i) (record_in t i)

module _ (t : Pclntab) (base : ℕ) (others : List (ℕ × List ℕ)) (is : IsSound t) (i : ℕ) (inside : i < length t.functions) where
  own_table : (q : List ℕ) → is_among (own_tables (function t i)) q ≡ true → IsTable q → IsTableAt (section t) (table_offset (tables t) q) q
  own_table q has whole = table_there t is.short q (tables_have t.functions i q inside has) whole

  no_tree : (function t i).inlined ≡ [] → HasNoTree (func t i) (record_in t i)
  no_tree e =
      let f = function t i in
      let tree = tree_offset t.trees t.functions i in
      let stored = ap (λ (v : List InlinedCall). funcdata_by v tree f) e in
      record {
        none = ap (λ (v : List InlinedCall). map (λ (n : InlinedCall). n.node) v) e;
        empty = elim (cases_lt 3 (length f.funcdata)) [
          | inl less ↦
              let more : nat_lt 3 (length f.funcdata) ≡ true = grind (arith, less) in
              let d : funcdata_by [] tree f ≡ set_at no_funcdata no_funcdata 3 f.funcdata = rw more refl in
              inr (ap (λ (v : List ℕ). get_or v 3 0) (stored ∙ d) ∙ set_get no_funcdata no_funcdata 0 3 f.funcdata)
          | inr few ↦
              let less : nat_lt 3 (length f.funcdata) ≡ false = grind (arith, few) in
              let d : funcdata_by [] tree f ≡ f.funcdata = rw less refl in
              inl (omega (arith, few, ap (λ (v : List ℕ). length v) (stored ∙ d)))
        ];
      }

  has_tree : (n : InlinedCall) (ns : List InlinedCall) → (function t i).inlined ≡ n ∷ ns → has_tree_at t i base others
  has_tree n ns e =
      let f = function t i in
      let tree = tree_offset t.trees t.functions i in
      let sound = is.tables i inside in
      let fit = is.write i inside in
      let stored3 : funcdata_of tree f ≡ set_at no_funcdata tree 3 f.funcdata = ap (λ (v : List InlinedCall). funcdata_by v tree f) e in
      let stored2 : pcdata_of f ≡ set_at [] f.pcinline 2 f.pcdata = ap (λ (v : List InlinedCall). pcdata_by v f) e in
      let tree3 : get_or (funcdata_of tree f) 3 0 ≡ tree = ap (λ (v : List ℕ). get_or v 3 0) stored3 ∙ set_get no_funcdata tree 0 3 f.funcdata in
      let table2 : get_or (map (table_offset (tables t)) (pcdata_of f)) 2 0 ≡ table_offset (tables t) f.pcinline = ap (λ (v : List (List ℕ)). get_or (map (table_offset (tables t)) v) 2 0) stored2 ∙ map_get (table_offset (tables t)) (set_at [] f.pcinline 2 f.pcdata) 2 [] 0 (set_long [] f.pcinline 2 f.pcdata) ∙ ap (table_offset (tables t)) (set_get [] f.pcinline [] 2 f.pcdata) in
      let mine : is_among (pcdata_of f) f.pcinline ≡ true = subst (λ (v : List (List ℕ)). is_among v f.pcinline ≡ true) (sym stored2) (set_among [] f.pcinline 2 f.pcdata) in
      let there = tree_is_at (names t) t.trees t.functions i inside in
      record {
        pcdata = omega (arith, length-map (pcdata_of f) (table_offset (tables t)), ap (λ (v : List (List ℕ)). length v) stored2, set_long [] f.pcinline 2 f.pcdata);
        funcdata = omega (arith, ap (λ (v : List ℕ). length v) stored3, set_long no_funcdata tree 3 f.funcdata);
        tree = λ bad. omega (arith, tree3, bad, fit.trees);
        pcinline = subst (λ (k : ℕ). IsTableAt (section t) k f.pcinline) (sym table2) (own_table f.pcinline (among_next f.pcsp (f.pcfile ∷ f.pcline ∷ pcdata_of f) f.pcinline (among_next f.pcfile (f.pcline ∷ pcdata_of f) f.pcinline (among_next f.pcline (pcdata_of f) f.pcinline mine))) sound.pcinline);
        inside = λ off k v. let h = at_inside f.inlined k (sound.inlined off k v) in (h.0.node, at_map (λ (m : InlinedCall). m.node) f.inlined k h.0 h.1);
        entries = λ k node has.
            let u = at_unmap (λ (m : InlinedCall). m.node) f.inlined k node has in
            let parent = sound.parents k u.0 u.1 in
            let entry = tree_entry (base + t.trees) (trees t) others there.0 (map (tree_entry_of (names t)) f.inlined) k (tree_entry_of (names t) u.0) there.2 (at_map (tree_entry_of (names t)) f.inlined k u.0 u.1) in
            let same : base + t.trees + there.0 ≡ base + get_or (funcdata_of tree f) 3 0 = omega (arith, tree3, there.1) in (
              tree_entry_of (names t) u.0,
              record {
                name = subst (λ (m : Node). IsNameAt (section t) (name_offset (names t) u.0.node.name) m.name) u.2 (name_there t is.short u.0.node.name (calls_have t.functions i k u.0 inside u.1));
                parent = ap (λ (m : Node). m.parent) u.2;
                signed = parent.0;
                fits = parent.1;
              },
              subst (λ (a : ℕ). EntryIn (read_in ((base + t.trees, trees t) ∷ others)) a k (tree_entry_of (names t) u.0)) same entry,
            );
      }

  tree_or_none : (v : List InlinedCall) → (function t i).inlined ≡ v → HasTree (module_of t base others) (func t i) (record_in t i) ⊎ HasNoTree (func t i) (record_in t i)
  tree_or_none [] e = inr (no_tree e)
  tree_or_none (n ∷ ns) e = inl (has_tree n ns e)

  -- a file that a value of pcfile names is written
  file_written : (off : ℤ) (k : ℕ) → value_of (function t i).pcfile off ≡ Some (pos k) → (name : List ℕ) × (at_index (func t i).files k ≡ Some name) × IsFileAt (section t) (first_entry t.units (function t i).unit + k) name
  file_written off k v =
      let f = function t i in
      let low = (is.tables i inside).files off k v in
      let h = at_inside (unit_files t.units f.unit) k low in
      let named = function_names t.units t.functions i (first_entry t.units f.unit + k) inside (value_names (first_entry t.units f.unit) (length (unit_files t.units f.unit)) f.pcfile off k low v) in
      let first : first_entry t.units f.unit + k ≡ 0 + (first_entry t.units f.unit + k) = omega arith in
      let here = subst (λ (n : ℕ). is_number_among (entries_named t.units t.functions) n ≡ true) first named in
      let entry = entry_there (entries_named t.units t.functions) (files_of t.units) 0 (first_entry t.units f.unit + k) h.0 (unit_file t.units f.unit k h.0 h.1) here in
      (h.0, h.1, file_there t is.short (first_entry t.units f.unit + k) h.0 entry)

  pub is_written : IsWritten (module_of t base others) i (func t i) (record_in t i)
  is_written =
      let f = function t i in
      let sound = is.tables i inside in
      let fit = is.write i inside in
      record {
        is_at = record_there t is.short i inside;
        pcdata_few = omega (arith, length-map (pcdata_of f) (table_offset (tables t)), fit.pcdata);
        funcdata_few = fit.funcdata;
        funcdata_fits = is.funcdata i inside;
        unit_fits = omega (arith, unit_inside t.units f.unit, length_entries (entries_named t.units t.functions) 0 (files_of t.units), cutab_end t, is.short);
        name = name_there t is.short f.name (names_have t.functions i inside);
        pcsp = own_table f.pcsp (among_first f.pcsp (f.pcfile ∷ f.pcline ∷ pcdata_of f)) sound.pcsp;
        pcfile = own_table f.pcfile (among_next f.pcsp (f.pcfile ∷ f.pcline ∷ pcdata_of f) f.pcfile (among_first f.pcfile (f.pcline ∷ pcdata_of f))) sound.pcfile;
        pcline = own_table f.pcline (among_next f.pcsp (f.pcfile ∷ f.pcline ∷ pcdata_of f) f.pcline (among_next f.pcfile (f.pcline ∷ pcdata_of f) f.pcline (among_first f.pcline (pcdata_of f)))) sound.pcline;
        files = file_written;
        nodes = tree_or_none f.inlined refl;
      }
