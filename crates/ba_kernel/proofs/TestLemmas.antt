-- A step that passes its tests isn't refused.
use Rattle.std.proofs.Common.{◌≡◌, ◌∙◌, ℕ, inl, inr, List, [], ◌∷◌, map, ap, subst}
use Rattle.std.proofs.lemmas.Option.{get_or_from_slice_get, slice_get_cases, slice_get_within}
use Rattle.std.proofs.lemmas.List.Elements.{All-cons, All-nil}
use Rattle.std.specs.List.{All, AllZip, zip}
use Rattle.std.specs.Prelude.{Option, Some, None, option_map, slice_get}
use Rattle.ba_model.specs.declared.query.Part.{Part}
use Rattle.ba_model.specs.declared.schema.Kind.{Kind}
use Rattle.ba_facts.specs.Matches.{AreTheSame, IsMapping, IsShown, row_of}
use Rattle.ba_kernel.specs.Effects.{rows_at}
use Rattle.ba_kernel.specs.Steps.{AreEqualAt, FactsPass, FactsRefuse, GoalPasses, GoalRefuses, IsFirstWithout, IsKeyOf, IsLinkOf, IsNotNullAt, IsRulePart}
use Rattle.ba_kernel.specs.Steps.{IsViewPart, KeyPasses, KeyRefuses, LinkPasses, LinkRefuses, RulePasses, RuleRefuses, SplitPasses, SplitRefuses, ViewPasses}
use Rattle.ba_kernel.specs.Steps.{ViewRefuses}
use Rattle.ba_kernel.specs.SearchStates.{PassedIsNotRefused}
use Rattle.ba_facts.specs.Knowing.{IsThere}
use Rattle.ba_facts.specs.Laws.{kind_of_term}
use Rattle.ba_facts.specs.declared.branch.Branch.{Branch}
use Rattle.ba_kernel.specs.declared.problem.Problem.{Problem}
use Rattle.ba_kernel.specs.declared.step.StepFault.{StepFault}
use Rattle.ba_facts.specs.declared.term.Fact.{Fact}
use Rattle.ba_kernel.specs.declared.step.Step.TheVariants as steps
use Rattle.ba_facts.specs.declared.term.Side.{Side}
use Rattle.ba_facts.specs.declared.term.Side.TheVariants.{One, Two}
use Rattle.ba_facts.specs.declared.term.Term.{Term}
use Rattle.ba_facts.specs.declared.term.Term.TheVariants.{Unknown, Val, Param, Var}
use Rattle.ba_facts.specs.declared.term.TermAtom.{TermAtom}

-- where P holds of all, there is no first without it
pub no_first : {X : Type 0} (P : X → Type 0) (xs : List X) (n : ℕ) → All P xs → IsFirstWithout P xs n → ⊥
no_first P xs n all first =
    first.without (subst P (get_or_from_slice_get xs n first.it first.it first.there) (all n first.it (slice_get_within xs n first.it first.there)))

some_inj : {X : Type 0} (o : Option X) (x y : X) → o ≡ Some x → o ≡ Some y → x ≡ y
some_inj o x y left right = cc

pub key_is : (p : Problem) (f g : Fact) (key : ℕ) (xs ys : List ℕ) → f ≡ g →
    IsKeyOf p.policy.schema f key xs → IsKeyOf p.policy.schema g key ys → xs ≡ ys
key_is p f g key xs ys same left right =
    let tables : slice_get p.policy.schema.tables f.table ≡ Some right.table = ap (λ it. slice_get p.policy.schema.tables it.table) same ∙ right.table_is in
    let table : left.table ≡ right.table = some_inj _ _ _ left.table_is tables in
    some_inj _ _ _ left.key_is (ap (λ it. slice_get it.keys key) table ∙ right.key_is)

pub key_not_both : (p : Problem) (b : Branch) (key left right : ℕ) (fault : StepFault) → KeyPasses p.policy.schema b key left right →
    KeyRefuses p b key left right fault → ⊥
key_not_both p b key left right _ pass (KeyRefuses.no_pair none) = none (pass.f, pass.g, pass.pair)
key_not_both p b key left right _ pass (KeyRefuses.no_key {f} {g} pair none) =
    none (pass.columns, subst (λ it. IsKeyOf p.policy.schema it key pass.columns) (some_inj _ _ _ pass.pair.left_is pair.left_is) pass.key_of)
key_not_both p b key left right _ pass (KeyRefuses.hidden {f} {g} {columns} {n} pair of first) =
    let one : pass.f ≡ f = some_inj _ _ _ pass.pair.left_is pair.left_is in
    let two : pass.g ≡ g = some_inj _ _ _ pass.pair.right_is pair.right_is in
    let same : pass.columns ≡ columns = key_is p pass.f f key pass.columns columns one pass.key_of of in
    let own : All (AreEqualAt b f.terms pass.g.terms) pass.columns =
    subst (λ it. All (AreEqualAt b it.terms pass.g.terms) pass.columns) one pass.equal in
    let both : All (AreEqualAt b f.terms g.terms) pass.columns = subst (λ it. All (AreEqualAt b f.terms it.terms) pass.columns) two own in
    no_first (AreEqualAt b f.terms g.terms) columns n (subst (All (AreEqualAt b f.terms g.terms)) same both) first

pub facts_not_both : (b : Branch) (side : Side) (part : Part) (facts : List ℕ) (fault : StepFault) → FactsPass b side part facts →
    FactsRefuse b side part facts fault → ⊥
facts_not_both b side part facts _ pass (FactsRefuse.no_mapping none) = none pass.mapping
facts_not_both b side part facts _ pass (FactsRefuse.hidden {n} mapping first) = no_first (IsShown b.known (rows_at b facts)) part.conds n pass.shown first

pub link_not_both : (p : Problem) (b : Branch) (link fact : ℕ) (fault : StepFault) → LinkPasses p.policy.schema b link fact →
    LinkRefuses p b link fact fault → ⊥
link_not_both p b link fact _ pass (LinkRefuses.no_fact none) = cc (pass.fact_is, none)
link_not_both p b link fact _ pass (LinkRefuses.no_link {f} there none) =
    none (pass.it, subst (λ it. IsLinkOf p.policy.schema it link pass.it) (some_inj _ _ _ pass.fact_is there) pass.link_of)
link_not_both p b link fact _ pass (LinkRefuses.hidden {f} {it} {n} there of first) =
    let one : pass.f ≡ f = some_inj _ _ _ pass.fact_is there in
    let tables : slice_get p.policy.schema.tables pass.f.table ≡ Some of.table = ap (λ g. slice_get p.policy.schema.tables g.table) one ∙ of.table_is in
    let table : pass.link_of.table ≡ of.table = some_inj _ _ _ pass.link_of.table_is tables in
    let same : pass.it ≡ it = some_inj _ _ _ pass.link_of.link_is (ap (λ g. slice_get g.links link) table ∙ of.link_is) in
    let own : All (IsNotNullAt b f.terms) pass.it.columns = subst (λ g. All (IsNotNullAt b g.terms) pass.it.columns) one pass.not_null in
    no_first (IsNotNullAt b f.terms) it.columns n (subst (λ g. All (IsNotNullAt b f.terms) g.columns) same own) first

pub rule_part_is : (p : Problem) (rule part : ℕ) (x y : Part) → IsRulePart p rule part x → IsRulePart p rule part y → x ≡ y
rule_part_is p rule part x y left right =
    let of : left.of ≡ right.of = some_inj _ _ _ left.rule_is right.rule_is in
    some_inj _ _ _ left.part_is (ap (λ it. slice_get it.left.parts part) of ∙ right.part_is)

pub view_part_is : (p : Problem) (view part : ℕ) (x y : Part) → IsViewPart p view part x → IsViewPart p view part y → x ≡ y
view_part_is p view part x y left right =
    let of : left.of ≡ right.of = some_inj _ _ _ left.view_is right.view_is in
    some_inj _ _ _ left.part_is (ap (λ it. slice_get it.query.parts part) of ∙ right.part_is)

pub rule_not_both : (p : Problem) (b : Branch) (rule part : ℕ) (facts : List ℕ) (fault : StepFault) → RulePasses p b rule part facts →
    RuleRefuses p b rule part facts fault → ⊥
rule_not_both p b rule part facts _ pass (RuleRefuses.no_part none) = none (pass.it, pass.is_part)
rule_not_both p b rule part facts _ pass (RuleRefuses.no_side {it} of none) =
    none (pass.side, subst (λ part. IsMapping b pass.side part.from facts) (rule_part_is p rule part pass.it it pass.is_part of) pass.pass.mapping)
rule_not_both p b rule part facts _ pass (RuleRefuses.hidden {it} side {n} of mapping first) =
    no_first (IsShown b.known (rows_at b facts)) it.conds n
    (subst (λ part. All (IsShown b.known (rows_at b facts)) part.conds) (rule_part_is p rule part pass.it it pass.is_part of) pass.pass.shown) first

pub view_not_both : (p : Problem) (b : Branch) (view part : ℕ) (facts : List ℕ) (fault : StepFault) → ViewPasses p b view part facts →
    ViewRefuses p b view part facts fault → ⊥
view_not_both p b view part facts _ pass (ViewRefuses.no_part none) = none (pass.it, pass.is_part)
view_not_both p b view part facts fault pass (ViewRefuses.facts_refuse {it} of refuse) =
    facts_not_both b One it facts fault (subst (λ part. FactsPass b One part facts) (view_part_is p view part pass.it it pass.is_part of) pass.pass) refuse

-- of all pairs, where of the lists place by place
zip_of : {X Y : Type 0} (R : X → Y → Type 0) (xs : List X) (ys : List Y) → AllZip R xs ys → All (λ two. R two.0 two.1) (zip xs ys)
zip_of R [] ys h = All-nil (λ two. R two.0 two.1)
zip_of R (x ∷ xs) [] h = absurd h
zip_of R (x ∷ xs) (y ∷ ys) h = All-cons (λ two. R two.0 two.1) (x, y) (zip xs ys) h.0 (zip_of R xs ys h.1)

pub goal_not_both : (p : Problem) (b : Branch) (part : ℕ) (facts : List ℕ) (fault : StepFault) → GoalPasses p b part facts →
    GoalRefuses p b part facts fault → ⊥
goal_not_both p b part facts _ pass (GoalRefuses.no_part none) = cc (pass.is_part, none)
goal_not_both p b part facts fault pass (GoalRefuses.facts_refuse {it} there refuse) =
    facts_not_both b Two it facts fault (subst (λ part. FactsPass b Two part facts) (some_inj _ _ _ pass.is_part there) pass.pass) refuse
goal_not_both p b part facts _ pass (GoalRefuses.head {it} {n} there passed first) =
    let head : AllZip (AreTheSame b.known) (row_of b facts it.head) (map Some b.goal) =
    subst (λ part. AllZip (AreTheSame b.known) (row_of b facts part.head) (map Some b.goal)) (some_inj _ _ _ pass.is_part there) pass.head in
    no_first (λ two. AreTheSame b.known two.0 two.1) (zip (row_of b facts it.head) (map Some b.goal)) n
    (zip_of (AreTheSame b.known) (row_of b facts it.head) (map Some b.goal) head) first

there_of : (b : Branch) (t : Term) (kind : Kind) → kind_of_term b t ≡ Some kind → IsThere b.known t
there_of b (Unknown n) kind e =
    elim (slice_get_cases b.known.unknowns n).1 [
      | inl found ↦ found.1
      | inr past ↦ absurd (let none : option_map (λ sort. sort.kind) (slice_get b.known.unknowns n) ≡ None = rw past.1 in cc (none, e))
    ]
there_of b (Val v) kind e = tt
there_of b (Param n) kind e = tt
there_of b (Var n) kind e = tt

pub split_not_both : (b : Branch) (atom : TermAtom) (fault : StepFault) → SplitPasses b atom → SplitRefuses b atom fault → ⊥
split_not_both b atom _ fits (SplitRefuses.no_unknown none) =
    none (there_of b atom.left fits.kind fits.sides.left, there_of b atom.right fits.kind fits.sides.right)
split_not_both b atom _ fits (SplitRefuses.unfit there unfit) = unfit fits

pub not_both : PassedIsNotRefused
not_both p b (steps.Entry branch entry) fault pass refuse = cc (pass.there, refuse.0)
not_both p b (steps.Key branch key left right) fault pass refuse = key_not_both p b key left right fault pass refuse
not_both p b (steps.Link branch link fact) fault pass refuse = link_not_both p b link fact fault pass refuse
not_both p b (steps.Rule branch rule part facts) fault pass refuse = rule_not_both p b rule part facts fault pass refuse
not_both p b (steps.View branch view part facts) fault pass refuse = view_not_both p b view part facts fault pass refuse
not_both p b (steps.Split branch atom) fault pass refuse = split_not_both b atom fault pass refuse
not_both p b (steps.Absurd branch) fault pass refuse = refuse.0 pass
not_both p b (steps.Goal branch part facts) fault pass refuse = goal_not_both p b part facts fault pass refuse
