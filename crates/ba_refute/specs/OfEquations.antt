-- Questions where equations alone are used, and that the image of a leaf refutes them.
use Rattle.std.specs.Prelude.{◌≡◌, ◌+◌, ◌<◌, ◌≤◌, ◌^◌, List, All, length}
use Rattle.ba_comply.specs.declared.trace.TraceEntry.{TraceEntry}
use Rattle.ba_facts.specs.declared.branch.Branch.{Branch}
use Rattle.ba_kernel.specs.Asked.{QuestionFits}
use Rattle.ba_kernel.specs.Courses.{Slots}
use Rattle.ba_kernel.specs.Problems.{problem_of}
use Rattle.ba_kernel.specs.declared.problem.Problem.{Problem}
use Rattle.ba_model.specs.Equations.{IsOfEquations, PolicyIsOfEquations}
use Rattle.ba_model.specs.declared.policy.Context.{Context}
use Rattle.ba_model.specs.declared.policy.Policy.{Policy}
use Rattle.ba_model.specs.declared.query.Query.{Query}
use Rattle.ba_refute.specs.Counterexamples.{IsCounterexample, IsNumber}
use Rattle.ba_refute.specs.Images.{IsImage, literals, numbers_of}
use Rattle.ba_refute.specs.declared.clause.Counterexample.{Counterexample}
use Rattle.ba_settle.specs.Dues.{DueList, IsLeaf}
use Rattle.ba_settle.specs.declared.ends.Leaf.{Leaf}
use Rattle.ba_settle.specs.declared.order.Pick.{Pick}

-- no column may be NULL, and no atom but `=` stands in views, rules, recorded queries and the
-- question
pub record IsQuestionOfEquations (policy : Policy) (trace : List TraceEntry) (q : Query) :
    Type 0 where
  pub policy_is : PolicyIsOfEquations policy
  pub recorded : All (λ (entry : TraceEntry). IsOfEquations entry.query) trace
  pub asked : IsOfEquations q

-- a leaf of the question's problem, whose steps are a due list, or a late one
pub record IsDueLeafOf (policy : Policy) (c : Context) (trace : List TraceEntry) (q : Query)
    (leaf : Leaf) : Type 0 where
  pub problem : leaf.problem ≡ problem_of policy c trace q
  pub leaf_is : IsLeaf leaf
  pub pick : Pick
  pub slots : Slots
  pub due : DueList pick leaf.problem leaf.steps slots

-- the unknowns are at most 2^32, the literals' numbers are within 64 bits, and they and the unknowns
-- are fewer than 2^63
pub record AreSmall (p : Problem) (b : Branch) : Type 0 where
  pub stored : All IsNumber (numbers_of (literals p b))
  pub unknowns : length b.known.unknowns ≤ 2 ^ 32
  pub few : length (numbers_of (literals p b)) + length b.known.unknowns < 2 ^ 63

-- The image of a leaf is a counterexample to such a question.
abbrev pub ImagesRefute : Type 0
ImagesRefute =
    (policy : Policy) (c : Context) (trace : List TraceEntry) (q : Query) (leaf : Leaf)
    (it : Counterexample) → QuestionFits policy c trace q →
    IsQuestionOfEquations policy trace q → IsDueLeafOf policy c trace q leaf →
    AreSmall leaf.problem leaf.branch → IsImage leaf.problem c leaf.branch it →
    IsCounterexample policy c trace q it
