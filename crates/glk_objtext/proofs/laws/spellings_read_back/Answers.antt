use Rattle.glk_objtext.proofs.NumberFacts.{number_read}
use Rattle.glk_objtext.proofs.SpellingLaws.{signed_read, octets_read}
use Rattle.glk_objtext.proofs.StringLaws.{string_read}
use Rattle.glk_objtext.proofs.TargetLaws.{target_read}
use Rattle.glk_objtext.proofs.laws.spellings_read_back.Goals as goal

pub returns-clause-numbers : goal.returns-clause-numbers
returns-clause-numbers c = number_read

pub returns-clause-signed_numbers : goal.returns-clause-signed_numbers
returns-clause-signed_numbers c = signed_read

pub returns-clause-octets : goal.returns-clause-octets
returns-clause-octets c = octets_read

pub returns-clause-strings : goal.returns-clause-strings
returns-clause-strings c = string_read

pub returns-clause-references : goal.returns-clause-references
returns-clause-references c = target_read
