-- The frames of an image agree with those of the object, for a function that is written.
use Rattle.std.proofs.Common.{◌≡◌, ◌≢◌, ℕ, zero, suc, ◌+◌, ◌*◌, ◌^◌, ◌<◌, ◌≤◌, List, [], ◌∷◌, ◌++◌, length, get_or, Option, Some, None, cond, refl, sym, ap, ◌∙◌, arith, true, false, Bool, inl, inr, ℤ, pos, negsuc}
use Rattle.std.specs.Prelude.{nat_lt, not, ◌&&◌, ◌==◌}
use Rattle.std.specs.Int.{cast_signed, cast_unsigned, w32}
use Rattle.std.proofs.lemmas.Bool.{cases_lt}
use Rattle.glk_base.specs.Bytes.{number_at}
use Rattle.glk_base.specs.Fields.{fields_bytes, byte, u32}
use Rattle.glk_pcval.specs.Table.{value_of, value_in, IsTable}
use Rattle.glk_pcval.specs.Laws.{TablesEndThemselves}
use Rattle.glk_frames.specs.Chain.{Frame, chain, Ends, most_frames, at_value, or_unknown, or_line_0}
use Rattle.glk_frames.specs.Object.{Node, Func, before_zero, shown_name, file_of, line_of, frame_of, step_of, frames_of, depth_of}
use Rattle.glk_frames.specs.Region.{record_offset, cutab_offset, pcdata_count, funcdata_count, pcdata_in, funcdata_in, record_inside, ended_by_zero, one_more, name_at, table_at, file_entry, file_at}
use Rattle.glk_frames.specs.Image.{Module, no_funcdata, inline_index, node_in, node_at, file_in, line_in, name_in, frame_in, step_in, frames_in, depth_in}
use Rattle.glk_base.specs.BytesAt.{IsAt}
use Rattle.glk_frames.specs.Written.{Record, head_fields, u32s_bytes, record_bytes, Entry, entry_fields, IsNameAt, IsTableAt, IsFileAt, IsEntryOf, EntryIn, HasTree, HasNoTree, IsWritten}
use Rattle.glk_frames.specs.Laws.{ReadsBack}
use Rattle.glk_base.proofs.BytesAt.{is_at_here, is_at_same, is_at_part, length_fields, field_read}
use Rattle.glk_frames.proofs.AtLemmas.{is_at_after, is_at_end, is_at_inside, length_u32s, u32_read}

-- chains whose steps agree agree
pub chains_agree : (s t : ℤ → Frame × Option ℤ) (most : ℕ) (next : Option ℤ) → ((off : ℤ) → s off ≡ t off) → chain s most next ≡ chain t most next
unfolding chain
chains_agree s t zero next same = refl
chains_agree s t (suc most) None same = refl
chains_agree s t (suc most) (Some off) same = rw (same off) (ap (λ fs. (t off).0 ∷ fs) (chains_agree s t most (t off).1 same))

-- a chain that ends within a bound is the same with any greater one
pub chain_stays : (s : ℤ → Frame × Option ℤ) (most more : ℕ) (next : Option ℤ) → Ends s most next → chain s (most + more) next ≡ chain s most next
unfolding chain Ends
chain_stays s zero zero None ends = refl
chain_stays s zero (suc more) None ends = let e : 0 + suc more ≡ suc more = omega arith in rw e refl
chain_stays s zero more (Some off) ends = absurd ends
chain_stays s (suc most) more None ends = let e : suc most + more ≡ suc (most + more) = omega arith in rw e refl
chain_stays s (suc most) more (Some off) ends =
    let e : suc most + more ≡ suc (most + more) = omega arith in
    rw e (ap (λ fs. (s off).0 ∷ fs) (chain_stays s most more (s off).1 ends))

-- ---- names, tables, files
pick : (b : Bool) (x y : List ℕ) → cond b (Some x) (Some y) ≡ Some (cond b x y)
pick true x y = refl
pick false x y = refl

pub name_ends : (s rest : List ℕ) → ended_by_zero ((s ++ 0 ∷ []) ++ rest) ≡ Some (before_zero s)
unfolding ended_by_zero before_zero
name_ends [] rest = refl
name_ends (b ∷ s) rest = ap (λ t. cond (b == 0) (Some []) (one_more b t)) (name_ends s rest) ∙ pick (b == 0) [] (b ∷ before_zero s)

pub name_back : (r : List ℕ) (offset : ℕ) (name : List ℕ) → IsNameAt r offset name → name_at r offset ≡ Some (before_zero name)
unfolding name_at
name_back r offset name s = ap ended_by_zero s.is_at.is ∙ name_ends name s.is_at.rest

value_alone : TablesEndThemselves → (t rest : List ℕ) (off : ℤ) → t ≢ [] → IsTable t → value_of (t ++ rest) off ≡ value_of t off
value_alone ends t rest (pos off) some whole = ap (λ rs. value_in rs off) (ends t rest some whole)
value_alone ends t rest (negsuc below) some whole = refl

pub table_back : TablesEndThemselves → (r : List ℕ) (offset : ℕ) (t : List ℕ) (off : ℤ) → IsTableAt r offset t → value_of (table_at r offset) off ≡ value_of t off
unfolding table_at
table_back ends r offset t off h = elim (h.1) [
  | inl e ↦ let a : table_at r offset ≡ [] = rw (e.0) refl in ap (λ x. value_of x off) (a ∙ sym (e.1))
  | inr s ↦
      let far : (offset == 0) ≡ false = let b = s.later in grind (arith, b) in
      rw far (ap (λ x. value_of x off) s.is_at.is ∙ value_alone ends t s.is_at.rest off s.some s.whole)
]

pub file_back : (r : List ℕ) (k : ℕ) (name : List ℕ) → IsFileAt r k name → file_entry r k ≡ Some (before_zero name)
unfolding file_entry
file_back r k name s =
    let long : cutab_offset r + 4 * k + 4 ≤ length r = omega (arith, is_at_inside r (cutab_offset r + 4 * k) (fields_bytes (u32 s.offset ∷ [])) s.entry, length_fields (u32 s.offset ∷ [])) in
    let inside : nat_lt (length r) (cutab_offset r + 4 * k + 4) ≡ false = grind (arith, long) in
    let number : number_at 4 r (cutab_offset r + 4 * k) ≡ s.offset = field_read [] [] 4 s.offset r (cutab_offset r + 4 * k) (cutab_offset r + 4 * k) s.entry (omega arith) (omega (arith, s.fits)) in
    let other : (s.offset == 4294967295) ≡ false = let b = s.fits in grind (arith, b) in
    rw (inside, number, other) (ap ended_by_zero s.is_at.is ∙ name_ends name s.is_at.rest)

at_value_nil : {A : Type 0} (v : Option ℤ) → at_value {A = A} [] v ≡ None
at_value_nil None = refl
at_value_nil (Some (pos i)) = refl
at_value_nil (Some (negsuc i)) = refl

few_by : (a c : Bool) (v : Option ℤ) → cond (a && false && not c) v None ≡ None
few_by true c v = refl
few_by false c v = refl

empty_by : (a b : Bool) (v : Option ℤ) → cond (a && b && not true) v None ≡ None
empty_by true true v = refl
empty_by true false v = refl
empty_by false b v = refl

module _ (m : Module) (i : ℕ) (f : Func) (x : Record) (is : IsWritten m i f x) where
  at : ℕ
  at = record_offset m.region i

  head : IsAt m.region (record_offset m.region i) (fields_bytes (head_fields x))
  unfolding record_bytes
  head =
      let more = u32s_bytes x.pcdata ++ u32s_bytes x.funcdata in
      is_at_same m.region (record_offset m.region i + 0) (record_offset m.region i) _ (is_at_part m.region (record_offset m.region i) 0 (record_bytes x) (fields_bytes (head_fields x)) is.is_at (is_at_here [] (fields_bytes (head_fields x)) more)) (omega arith)

  pcdata_is_at : IsAt m.region (record_offset m.region i + 44) (u32s_bytes x.pcdata)
  unfolding record_bytes
  pcdata_is_at =
      is_at_part m.region (record_offset m.region i) 44 (record_bytes x) (u32s_bytes x.pcdata) is.is_at
      (is_at_same _ (length (fields_bytes (head_fields x))) 44 _ (is_at_here (fields_bytes (head_fields x)) (u32s_bytes x.pcdata) (u32s_bytes x.funcdata)) (length_fields (head_fields x)))

  funcdata_is_at : IsAt m.region (record_offset m.region i + (44 + 4 * length x.pcdata)) (u32s_bytes x.funcdata)
  unfolding record_bytes
  funcdata_is_at =
      is_at_part m.region (record_offset m.region i) (44 + 4 * length x.pcdata) (record_bytes x) (u32s_bytes x.funcdata) is.is_at
      (is_at_same _ (length (fields_bytes (head_fields x)) + length (u32s_bytes x.pcdata)) (44 + 4 * length x.pcdata) _ (is_at_after (fields_bytes (head_fields x)) (u32s_bytes x.pcdata ++ u32s_bytes x.funcdata) (length (u32s_bytes x.pcdata)) _ (is_at_end (u32s_bytes x.pcdata) (u32s_bytes x.funcdata))) (omega (arith, length_fields (head_fields x), length_u32s x.pcdata)))

  pcdata_counted : pcdata_count m.region (record_offset m.region i) ≡ length x.pcdata
  unfolding pcdata_count
  pcdata_counted =
      field_read (u32 x.start ∷ u32 x.name ∷ u32 x.args ∷ u32 x.deferreturn ∷ u32 x.pcsp ∷ u32 x.pcfile ∷ u32 x.pcline ∷ []) _ 4 (length x.pcdata) m.region (record_offset m.region i) (record_offset m.region i + 28) head (omega arith) (omega (arith, is.pcdata_few))

  funcdata_counted : funcdata_count m.region (record_offset m.region i) ≡ length x.funcdata
  unfolding funcdata_count
  funcdata_counted =
      field_read (u32 x.start ∷ u32 x.name ∷ u32 x.args ∷ u32 x.deferreturn ∷ u32 x.pcsp ∷ u32 x.pcfile ∷ u32 x.pcline ∷ u32 (length x.pcdata) ∷ u32 x.unit ∷ u32 x.start_line ∷ byte x.id ∷ byte x.flag ∷ byte 0 ∷ []) _ 1 (length x.funcdata) m.region (record_offset m.region i) (record_offset m.region i + 43) head (omega arith) (omega (arith, is.funcdata_few))

  -- the record lies in the region
  pub inside_read : record_inside m.region (record_offset m.region i) ≡ true
  unfolding record_inside
  inside_read =
      let long = is_at_inside m.region (record_offset m.region i + (44 + 4 * length x.pcdata)) (u32s_bytes x.funcdata) funcdata_is_at in
      let size = length_u32s x.funcdata in
      let fact : record_offset m.region i + 44 + 4 * length x.pcdata + 4 * length x.funcdata ≤ length m.region = omega (arith, long, size) in
      rw (pcdata_counted, funcdata_counted) (grind (arith, fact))

  pcdata_read : (k : ℕ) → k < length x.pcdata → get_or x.pcdata k 0 < 2 ^ 32 → pcdata_in m.region (record_offset m.region i) k ≡ get_or x.pcdata k 0
  unfolding pcdata_in
  pcdata_read k inside small = u32_read m.region (record_offset m.region i + 44) x.pcdata k pcdata_is_at inside small

  funcdata_read : (k : ℕ) → k < length x.funcdata → funcdata_in m.region (record_offset m.region i) k ≡ get_or x.funcdata k 0
  unfolding funcdata_in
  funcdata_read k inside =
      let offset : record_offset m.region i + 44 + 4 * length x.pcdata ≡ record_offset m.region i + (44 + 4 * length x.pcdata) = omega arith in
      rw (pcdata_counted, offset) (u32_read m.region (record_offset m.region i + (44 + 4 * length x.pcdata)) x.funcdata k funcdata_is_at inside (is.funcdata_fits k))

module _ (ends : TablesEndThemselves) (m : Module) (i : ℕ) (f : Func) (x : Record) (is : IsWritten m i f x) where
  name_read : name_in m.region (record_offset m.region i) ≡ before_zero f.name
  unfolding name_in
  name_read =
      let field : number_at 4 m.region (record_offset m.region i + 4) ≡ x.name = field_read (u32 x.start ∷ []) _ 4 x.name m.region (record_offset m.region i) (record_offset m.region i + 4) (head m i f x is) (omega arith) (omega (arith, is.name.fits)) in
      rw field (ap or_unknown (name_back m.region x.name f.name is.name))

  pub depth_read : (off : ℤ) → depth_in m.region i off ≡ depth_of f off
  unfolding depth_in depth_of
  depth_read off =
      let field : number_at 4 m.region (record_offset m.region i + 16) ≡ x.pcsp = field_read (u32 x.start ∷ u32 x.name ∷ u32 x.args ∷ u32 x.deferreturn ∷ []) _ 4 x.pcsp m.region (record_offset m.region i) (record_offset m.region i + 16) (head m i f x is) (omega arith) (omega (arith, is.pcsp.0)) in
      rw field (table_back ends m.region x.pcsp f.pcsp off is.pcsp)

  line_read : (off : ℤ) → line_in m.region (record_offset m.region i) off ≡ line_of f off
  unfolding line_in line_of
  line_read off =
      let field : number_at 4 m.region (record_offset m.region i + 24) ≡ x.pcline = field_read (u32 x.start ∷ u32 x.name ∷ u32 x.args ∷ u32 x.deferreturn ∷ u32 x.pcsp ∷ u32 x.pcfile ∷ []) _ 4 x.pcline m.region (record_offset m.region i) (record_offset m.region i + 24) (head m i f x is) (omega arith) (omega (arith, is.pcline.0)) in
      rw field (ap or_line_0 (table_back ends m.region x.pcline f.pcline off is.pcline))

  files_agree : (off : ℤ) (v : Option ℤ) → value_of f.pcfile off ≡ v → file_at m.region x.unit v ≡ shown_name (at_value f.files v)
  files_agree off None e = refl
  files_agree off (Some (negsuc below)) e = refl
  files_agree off (Some (pos k)) e =
      let file = is.files off k e in
      rw (file.1) (file_back m.region (x.unit + k) file.0 file.2)

  file_read : (off : ℤ) → file_in m.region (record_offset m.region i) off ≡ file_of f off
  unfolding file_in file_of
  file_read off =
      let field : number_at 4 m.region (record_offset m.region i + 20) ≡ x.pcfile = field_read (u32 x.start ∷ u32 x.name ∷ u32 x.args ∷ u32 x.deferreturn ∷ u32 x.pcsp ∷ []) _ 4 x.pcfile m.region (record_offset m.region i) (record_offset m.region i + 20) (head m i f x is) (omega arith) (omega (arith, is.pcfile.0)) in
      let unit : number_at 4 m.region (record_offset m.region i + 32) ≡ x.unit = field_read (u32 x.start ∷ u32 x.name ∷ u32 x.args ∷ u32 x.deferreturn ∷ u32 x.pcsp ∷ u32 x.pcfile ∷ u32 x.pcline ∷ u32 (length x.pcdata) ∷ []) _ 4 x.unit m.region (record_offset m.region i) (record_offset m.region i + 32) (head m i f x is) (omega arith) (omega (arith, is.unit_fits)) in
      rw (field, unit, table_back ends m.region x.pcfile f.pcfile off is.pcfile) (ap or_unknown (files_agree off (value_of f.pcfile off) refl))

  -- ---- the inline index
  index_read : HasTree m f x → (off : ℤ) → inline_index m.region (record_offset m.region i) off ≡ value_of f.pcinline off
  unfolding inline_index
  index_read tree off =
      let a = tree.pcdata in
      let b = tree.funcdata in
      let c = tree.tree in
      let some : nat_lt 2 (length x.pcdata) ≡ true = grind (arith, a) in
      let more : nat_lt 3 (length x.funcdata) ≡ true = grind (arith, b) in
      let there : (get_or x.funcdata 3 0 == 4294967295) ≡ false = grind (arith, c) in
      rw (pcdata_counted m i f x is, funcdata_counted m i f x is, funcdata_read m i f x is 3 b, some, more, there, pcdata_read m i f x is 2 a tree.pcinline.0) (table_back ends m.region (get_or x.pcdata 2 0) f.pcinline off tree.pcinline)

  none_few : (off : ℤ) → length x.funcdata ≤ 3 → inline_index m.region (record_offset m.region i) off ≡ None
  unfolding inline_index
  none_few off few =
      let less : nat_lt 3 (length x.funcdata) ≡ false = grind (arith, few) in
      rw (funcdata_counted m i f x is, less) (few_by (nat_lt 2 (pcdata_count m.region (record_offset m.region i))) (funcdata_in m.region (record_offset m.region i) 3 == no_funcdata) (value_of (table_at m.region (pcdata_in m.region (record_offset m.region i) 2)) off))

  none_empty : (off : ℤ) → 3 < length x.funcdata → get_or x.funcdata 3 0 ≡ no_funcdata → inline_index m.region (record_offset m.region i) off ≡ None
  unfolding inline_index
  none_empty off some e =
      rw (funcdata_read m i f x is 3 some, e) (empty_by (nat_lt 2 (pcdata_count m.region (record_offset m.region i))) (nat_lt 3 (funcdata_count m.region (record_offset m.region i))) (value_of (table_at m.region (pcdata_in m.region (record_offset m.region i) 2)) off))

  index_none : HasNoTree f x → (off : ℤ) → inline_index m.region (record_offset m.region i) off ≡ None
  index_none bare off = elim (cases_lt 3 (length x.funcdata)) [
    | inl some ↦ elim (bare.empty) [ inl few ↦ none_few off few | inr e ↦ none_empty off some e ]
    | inr few ↦ none_few off (omega (arith, few))
  ]

  -- ---- one step
  own_frame : (off : ℤ) → frame_in m.region (record_offset m.region i) off None ≡ frame_of f off None
  own_frame off = rw (name_read, file_read off, line_read off) refl

  node_frame : (off : ℤ) (node : Node) (n : ℕ) → name_at m.region n ≡ Some (before_zero node.name) → frame_in m.region (record_offset m.region i) off (Some (n, node.parent)) ≡ frame_of f off (Some node)
  node_frame off node n name = rw (name, file_read off, line_read off) refl

  entry_read : (tree k : ℕ) (node : Node) (e : Entry) → IsEntryOf m.region node e → EntryIn m.memory tree k e → node_in m.memory tree k ≡ Some (e.name, node.parent)
  unfolding node_in
  entry_read tree k node e entry there =
      let b = fields_bytes (entry_fields e) in
      let whole : IsAt b 0 b = is_at_end [] b in
      let name : number_at 4 b 4 ≡ e.name = field_read (byte e.id ∷ byte 0 ∷ byte 0 ∷ byte 0 ∷ []) _ 4 e.name b 0 4 whole refl (omega (arith, entry.name.fits)) in
      let parent : number_at 4 b 8 ≡ cast_unsigned w32 e.parent = field_read (byte e.id ∷ byte 0 ∷ byte 0 ∷ byte 0 ∷ u32 e.name ∷ []) _ 4 (cast_unsigned w32 e.parent) b 0 8 whole refl (omega (arith, entry.fits)) in
      let signed : cast_signed w32 (number_at 4 b 8) ≡ node.parent = ap (cast_signed w32) parent ∙ entry.signed ∙ entry.parent in
      rw there (rw (name, signed) refl)

  nodes_agree : HasTree m f x → (off : ℤ) (v : Option ℤ) → value_of f.pcinline off ≡ v
      → frame_in m.region (record_offset m.region i) off (node_at m.memory (m.base + get_or x.funcdata 3 0) v) ≡ frame_of f off (at_value f.nodes v)
  nodes_agree tree off None e = own_frame off
  nodes_agree tree off (Some (negsuc below)) e = own_frame off
  nodes_agree tree off (Some (pos k)) e =
      let has = tree.inside off k e in
      let entry = tree.entries k has.0 has.1 in
      let node : node_in m.memory (m.base + get_or x.funcdata 3 0) k ≡ Some (entry.0.name, has.0.parent) = entry_read (m.base + get_or x.funcdata 3 0) k has.0 entry.0 entry.1 entry.2 in
      rw (node, has.1) (node_frame off has.0 entry.0.name (name_back m.region entry.0.name has.0.name entry.1.name))

  steps_agree : (off : ℤ) → step_in m (record_offset m.region i) off ≡ step_of f off
  unfolding step_in step_of
  steps_agree off = elim (is.nodes) [
    | inl tree ↦ rw (index_read tree off, funcdata_read m i f x is 3 tree.funcdata) (nodes_agree tree off (value_of f.pcinline off) refl)
    | inr bare ↦
        let none : at_value f.nodes (value_of f.pcinline off) ≡ None = ap (λ (ns : List Node). at_value ns (value_of f.pcinline off)) bare.none ∙ at_value_nil {A = Node} (value_of f.pcinline off) in
        rw (index_none bare off, none) (own_frame off)
  ]

  pub frames_read : (off : ℤ) → frames_in m i off ≡ frames_of f off
  unfolding frames_in frames_of
  frames_read off = chains_agree (step_in m (record_offset m.region i)) (step_of f) most_frames (Some off) steps_agree

  pub reads_back : ReadsBack m i f
  reads_back = record { frames = frames_read; depth = depth_read }
