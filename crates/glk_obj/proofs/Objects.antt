-- What an object is, by the rules' numbers.
use Rattle.std.proofs.Common.{◌==◌, ℕ, List, Bool, true, false, MatchBool, arith}
use Rattle.glk_base.specs.Rules.{IsIntact, FirstBroken}
use Rattle.glk_obj.specs.Object.{IsObject}
use Rattle.glk_obj.specs.Rules.{Breaks}

-- bytes that break none of the sixteen rules are an object
pub object : (b : List ℕ) → IsIntact (Breaks b) 16 → IsObject b
object b intact = record {
  header_whole = λ n fault. intact.no 1 n (omega arith) fault;
  magic_first = λ n fault. intact.no 2 n (omega arith) fault;
  blocks_in_order = λ n fault. intact.no 3 n (omega arith) fault;
  blocks_inside = λ n fault. intact.no 4 n (omega arith) fault;
  records_whole = λ n fault. intact.no 5 n (omega arith) fault;
  linkable = λ n fault. intact.no 6 n (omega arith) fault;
  short_hashes_counted = λ n fault. intact.no 7 n (omega arith) fault;
  long_hashes_even = λ n fault. intact.no 8 n (omega arith) fault;
  tables_counted = λ n fault. intact.no 9 n (omega arith) fault;
  entries_rise = λ n fault. intact.no 10 n (omega arith) fault;
  strings_inside = λ n fault. intact.no 11 n (omega arith) fault;
  strings_without_nul = λ n fault. intact.no 12 n (omega arith) fault;
  targets_in_range = λ n fault. intact.no 13 n (omega arith) fault;
  data_within_size = λ n fault. intact.no 14 n (omega arith) fault;
  relocs_within_size = λ n fault. intact.no 15 n (omega arith) fault;
  symbols_aligned = λ n fault. intact.no 16 n (omega arith) fault;
}

-- a table of two: neither holds
neither : (t : Bool) (A B : Type 0) → (A → ⊥) → (B → ⊥) → MatchBool t A B → ⊥
neither true A B noA noB holds = noA holds
neither false A B noA noB holds = noB holds

-- an object breaks no rule of any number
pub unbroken : (b : List ℕ) (rule n : ℕ) → IsObject b → Breaks b rule n → ⊥
unbroken b rule n o =
    neither (rule == 1) _ _ (o.header_whole n)
    (neither (rule == 2) _ _ (o.magic_first n)
    (neither (rule == 3) _ _ (o.blocks_in_order n)
    (neither (rule == 4) _ _ (o.blocks_inside n)
    (neither (rule == 5) _ _ (o.records_whole n)
    (neither (rule == 6) _ _ (o.linkable n)
    (neither (rule == 7) _ _ (o.short_hashes_counted n)
    (neither (rule == 8) _ _ (o.long_hashes_even n)
    (neither (rule == 9) _ _ (o.tables_counted n)
    (neither (rule == 10) _ _ (o.entries_rise n)
    (neither (rule == 11) _ _ (o.strings_inside n)
    (neither (rule == 12) _ _ (o.strings_without_nul n)
    (neither (rule == 13) _ _ (o.targets_in_range n)
    (neither (rule == 14) _ _ (o.data_within_size n)
    (neither (rule == 15) _ _ (o.relocs_within_size n)
    (neither (rule == 16) _ _ (o.symbols_aligned n) (λ none. none))))))))))))))))

pub intact : (b : List ℕ) → IsObject b → IsIntact (Breaks b) 16
intact b o = record { no = λ rule n small broken. unbroken b rule n o broken }

-- bytes with a first broken rule are no object
pub refused : (b : List ℕ) (rule n : ℕ) → FirstBroken (Breaks b) rule n → ¬ IsObject b
refused b rule n first o = unbroken b rule n o first.here.holds
