-- What code finds, as what contracts speak of.
use Rattle.std.specs.Prelude.{ℕ, List, Result, Ok, Err}
use denote.Ref.{Bor}
use Rattle.glk_types.specs.declared.entries.Methods.{Methods}
use Rattle.glk_types.specs.Methods.{count_of, start_of}
use Rattle.glk_readings.specs.declared.interfaces.InterfaceMethod.{InterfaceMethod as CodeMethod}
use Rattle.glk_readings.specs.declared.unreadable.Unreadable.{Unreadable}
use Rattle.glk_readings.specs.Readings.{Reading, MethodEntries, InterfaceMethod}

-- a name that is read, by its bytes
abbrev pub name_view : Result (Bor (List ℕ)) Unreadable → Reading (List ℕ)
name_view (Ok name) = Ok name.now
name_view (Err why) = Err why

-- the methods of a type, by their entries
abbrev pub entries_of : Methods → MethodEntries
entries_of methods = record { count = count_of methods; start = start_of methods }

abbrev pub entries_view : Result Methods Unreadable → Reading MethodEntries
entries_view (Ok methods) = Ok (entries_of methods)
entries_view (Err why) = Err why

-- the method of an interface, with its name by its bytes
abbrev pub method_view : Result CodeMethod Unreadable → Reading InterfaceMethod
method_view (Ok method) = Ok (record { name = method.name.now; of = method.of })
method_view (Err why) = Err why
