use Rattle.std.proofs.Common.{◌≡◌, map}
use Rattle.std.specs.Prelude.{filter}
use Rattle.glk_elf.specs.ReaderViews.{symbol_record}
use Rattle.glk_nm.specs.Listing.{is_listed, first_symbols}
use Rattle.glk_nm.proofs.listing.listed_symbols.Given as goal

abbrev pub invariant-loop-k : goal.invariant-loop-k
invariant-loop-k l = map symbol_record l.rows.items ≡ filter is_listed (first_symbols l.view l.k)
