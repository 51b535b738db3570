use Rattle.ba_lex.proofs.LawLemmas.{tells_file_fault, tells_text_fault}
use Rattle.ba_lex.proofs.laws.first_fault.Goals as goal

pub returns-clause-text : goal.returns-clause-text
returns-clause-text c = tells_text_fault

pub returns-clause-file : goal.returns-clause-file
returns-clause-file c = tells_file_fault
