-- A written template file reads back as the templates that were written.
use Rattle.std.specs.Prelude.{◌≡◌, ◌+◌, ◌≤◌, ℕ, List, All, length, map, Some, Ok}
use Rattle.std.specs.Str.{IsUtf8}
use Rattle.serde_json.specs.Read.{read}
use Rattle.ba_model.specs.Limits.{most_entries, most_operands, most_templates}
use Rattle.ba_model.specs.SchemaFaults.{AreDistinct, table_names}
use Rattle.ba_model.specs.declared.policy.Policy.{Policy}
use Rattle.ba_model.specs.declared.query.Atom.{Atom}
use Rattle.ba_model.specs.declared.query.Operand.{Operand}
use Rattle.ba_model.specs.declared.query.Operand.TheVariants.{Col, Val, Param, Var}
use Rattle.ba_model.specs.declared.query.Part.{Part}
use Rattle.ba_model.specs.declared.query.Query.{Query}
use Rattle.ba_kernel.specs.SearchStates.{Proof}
use Rattle.ba_kernel.specs.declared.problem.Problem.{Problem}
use Rattle.ba_kernel.specs.declared.problem.ProblemEntry.{ProblemEntry}
use Rattle.ba_kernel.specs.declared.step.Step.{Step}
use Rattle.ba_template.specs.Templates.{IsTemplate}
use Rattle.ba_proof.specs.ReadBack.{IsShort, StepHasBits, ValueSpells}
use Rattle.ba_store.specs.Loads.{Loads}
use Rattle.ba_store.specs.Written.{json_text, template_json}

-- no two parameters have one name, and no two tables
pub record IsNamedApart (policy : Policy) : Type 0 where
  pub params : AreDistinct (map (λ parameter. parameter.name) policy.params)
  pub tables : AreDistinct (table_names policy.schema.tables)

-- ---- numbers have their bits: 32, and a literal 64 with a sign

abbrev pub OperandHasBits : Operand → Type 0
OperandHasBits (Col place column) = IsShort place × IsShort column
OperandHasBits (Val v) = ValueSpells v
OperandHasBits (Param n) = IsShort n
OperandHasBits (Var n) = IsShort n

pub record AtomHasBits (atom : Atom) : Type 0 where
  pub left : OperandHasBits atom.left
  pub right : OperandHasBits atom.right

pub record PartHasBits (part : Part) : Type 0 where
  pub from : All IsShort part.from
  pub conds : All AtomHasBits part.conds
  pub head : All OperandHasBits part.head

pub record QueryHasBits (q : Query) : Type 0 where
  pub parts : All PartHasBits q.parts

pub record EntryHasBits (entry : ProblemEntry) : Type 0 where
  pub query : QueryHasBits entry.query
  pub row : All OperandHasBits entry.row

pub record TemplateHasBits (p : Problem) (all : List Step) : Type 0 where
  pub goal : QueryHasBits p.goal
  pub entries : All EntryHasBits p.entries
  pub condition : All AtomHasBits p.assumed
  pub steps : All StepHasBits all

-- ---- what a template's text is

-- it is UTF-8 and reads as the JSON of a template, whose numbers have their bits
pub record HasText (it : Proof) : Type 0 where
  pub utf8 : IsUtf8 (json_text it)
  pub reads : read (json_text it) ≡ Some (template_json it.problem it.steps)
  pub template : IsTemplate it.problem it.steps
  pub bits : TemplateHasBits it.problem it.steps

-- ---- the law

-- A template of the policy that passes the reader's tests of variables and entries: with the
-- parameters its variables aren't too many, nor are its entries. That each variable stands in the
-- goal or an entry, and that the steps aren't too many, holds of every template.
pub record IsWritable (policy : Policy) (it : Proof) : Type 0 where
  pub of_policy : it.problem.policy ≡ policy
  pub few_vars : length it.problem.vars + length policy.params ≤ most_operands
  pub few_entries : length it.problem.entries ≤ most_entries

-- the bytes load these templates for the policy that they are of, if they aren't too many
abbrev pub ReadsBack : List Proof → List ℕ → Type 0
ReadsBack templates bytes =
    (policy : Policy) → IsNamedApart policy → length templates ≤ most_templates → All (IsWritable policy) templates → Loads policy bytes (Ok templates)
