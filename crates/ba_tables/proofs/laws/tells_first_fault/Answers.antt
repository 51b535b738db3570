use Rattle.ba_tables.proofs.FileFaultLemmas.{tells_header, tells_number, tells_too_many, tells_utf8, tells_width}
use Rattle.ba_tables.proofs.laws.tells_first_fault.Goals as goal

pub returns-clause-header : goal.returns-clause-header
returns-clause-header c = tells_header

pub returns-clause-width : goal.returns-clause-width
returns-clause-width c = tells_width

pub returns-clause-utf8 : goal.returns-clause-utf8
returns-clause-utf8 c = tells_utf8

pub returns-clause-number : goal.returns-clause-number
returns-clause-number c = tells_number

pub returns-clause-too_many : goal.returns-clause-too_many
returns-clause-too_many c = tells_too_many
