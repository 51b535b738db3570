-- A step that is refused has one fault: that of its first test that fails.
use Rattle.std.proofs.Common.{◌≡◌, ◌∙◌, ℕ, ◌<◌, inl, inr, List, map, refl, sym, ap, subst}
use Rattle.std.proofs.Math.Nat.{eq-or-lt_of_le}
use Rattle.std.proofs.lemmas.Bool.{cases_lt}
use Rattle.std.specs.List.{zip}
use Rattle.std.specs.Prelude.{Some, slice_get}
use Rattle.ba_model.specs.declared.query.Part.{Part}
use Rattle.ba_model.specs.declared.schema.Link.{Link}
use Rattle.ba_model.specs.declared.schema.Table.{Table}
use Rattle.ba_facts.specs.Matches.{AreTheSame, IsMapping, IsShown, row_of}
use Rattle.ba_facts.specs.declared.branch.Branch.{Branch}
use Rattle.ba_facts.specs.declared.term.Fact.{Fact}
use Rattle.ba_facts.specs.declared.term.Side.{Side}
use Rattle.ba_facts.specs.declared.term.Side.TheVariants.{One, Two}
use Rattle.ba_facts.specs.declared.term.TermAtom.{TermAtom}
use Rattle.ba_kernel.proofs.OneCase.{some_inj}
use Rattle.ba_kernel.proofs.TestLemmas.{facts_not_both, key_is, rule_part_is, view_part_is}
use Rattle.ba_kernel.specs.Effects.{rows_at}
use Rattle.ba_kernel.specs.Steps.{AreEqualAt, FactsRefuse, GoalRefuses, IsFirstDifferent, IsFirstWithout, IsKeyOf, IsLinkOf, IsNotNullAt, KeyRefuses, LinkRefuses, Refuses}
use Rattle.ba_kernel.specs.Steps.{RuleRefuses, SplitRefuses, ViewRefuses}
use Rattle.ba_kernel.specs.declared.problem.Problem.{Problem}
use Rattle.ba_kernel.specs.declared.step.Step.{Step}
use Rattle.ba_kernel.specs.declared.step.Step.TheVariants as steps
use Rattle.ba_kernel.specs.declared.step.StepFault.{StepFault}
use Rattle.ba_kernel.specs.declared.step.StepFault.TheVariants.{CondNotShown, HeadDiffers}

-- what is first without P comes at one place
not_before : {X : Type 0} (P : X → Type 0) (xs : List X) (m n : ℕ) → IsFirstWithout P xs m → IsFirstWithout P xs n → m < n → ⊥
not_before P xs m n left right below = left.without (right.before m left.it below left.there)

first_one : {X : Type 0} (P : X → Type 0) (xs : List X) (m n : ℕ) → IsFirstWithout P xs m → IsFirstWithout P xs n → m ≡ n
first_one P xs m n left right =
    elim (cases_lt m n) [
      | inl less ↦ absurd (not_before P xs m n left right less)
      | inr most ↦
          elim (eq-or-lt_of_le most) [
            | inl same ↦ sym same
            | inr less ↦ absurd (not_before P xs n m right left less)
          ]
    ]

key_fault : (p : Problem) (b : Branch) (key left right : ℕ) (f g : StepFault) → KeyRefuses p b key left right f → KeyRefuses p b key left right g → f ≡ g
key_fault p b key left right _ _ (KeyRefuses.no_pair none) (KeyRefuses.no_pair again) = refl
key_fault p b key left right _ _ (KeyRefuses.no_pair none) (KeyRefuses.no_key {f} {g} pair again) = absurd (none (f, g, pair))
key_fault p b key left right _ _ (KeyRefuses.no_pair none) (KeyRefuses.hidden {f} {g} pair of first) = absurd (none (f, g, pair))
key_fault p b key left right _ _ (KeyRefuses.no_key {f} {g} pair none) (KeyRefuses.no_pair again) = absurd (again (f, g, pair))
key_fault p b key left right _ _ (KeyRefuses.no_key pair none) (KeyRefuses.no_key other again) = refl
key_fault p b key left right _ _ (KeyRefuses.no_key {f} {g} pair none) (KeyRefuses.hidden {f = h} {g = k} {columns} other of first) =
    absurd (none (columns, subst (λ (it : Fact). IsKeyOf p.policy.schema it key columns) (some_inj _ _ _ other.left_is pair.left_is) of))
key_fault p b key left right _ _ (KeyRefuses.hidden {f} {g} pair of first) (KeyRefuses.no_pair again) = absurd (again (f, g, pair))
key_fault p b key left right _ _ (KeyRefuses.hidden {f} {g} {columns} pair of first) (KeyRefuses.no_key {f = h} {g = k} other none) =
    absurd (none (columns, subst (λ (it : Fact). IsKeyOf p.policy.schema it key columns) (some_inj _ _ _ pair.left_is other.left_is) of))
key_fault p b key left right _ _ (KeyRefuses.hidden {f} {g} {columns} {n = m} pair of first) (KeyRefuses.hidden {f = h} {g = k} {columns = others} {n} other again second) =
    let one : h ≡ f = some_inj _ _ _ other.left_is pair.left_is in
    let two : k ≡ g = some_inj _ _ _ other.right_is pair.right_is in
    let same : others ≡ columns = key_is p h f key others columns one again of in
    let at_one = subst (λ (it : Fact). IsFirstWithout (AreEqualAt b it.terms k.terms) others n) one second in
    let at_two = subst (λ (it : Fact). IsFirstWithout (AreEqualAt b f.terms it.terms) others n) two at_one in
    let own = subst (λ xs. IsFirstWithout (AreEqualAt b f.terms g.terms) xs n) same at_two in
    ap CondNotShown (first_one (AreEqualAt b f.terms g.terms) columns m n first own)

link_is : (p : Problem) (link : ℕ) (f g : Fact) (x y : Link) → f ≡ g → IsLinkOf p.policy.schema f link x → IsLinkOf p.policy.schema g link y → x ≡ y
link_is p link f g x y same left right =
    let tables : slice_get p.policy.schema.tables f.table ≡ Some right.table = ap (λ (it : Fact). slice_get p.policy.schema.tables it.table) same ∙ right.table_is in
    let table : left.table ≡ right.table = some_inj _ _ _ left.table_is tables in
    some_inj _ _ _ left.link_is (ap (λ (it : Table). slice_get it.links link) table ∙ right.link_is)

link_fault : (p : Problem) (b : Branch) (link fact : ℕ) (f g : StepFault) → LinkRefuses p b link fact f → LinkRefuses p b link fact g → f ≡ g
link_fault p b link fact _ _ (LinkRefuses.no_fact none) (LinkRefuses.no_fact again) = refl
link_fault p b link fact _ _ (LinkRefuses.no_fact none) (LinkRefuses.no_link there again) = cc (none, there)
link_fault p b link fact _ _ (LinkRefuses.no_fact none) (LinkRefuses.hidden there of first) = cc (none, there)
link_fault p b link fact _ _ (LinkRefuses.no_link there none) (LinkRefuses.no_fact again) = cc (again, there)
link_fault p b link fact _ _ (LinkRefuses.no_link there none) (LinkRefuses.no_link other again) = refl
link_fault p b link fact _ _ (LinkRefuses.no_link {f} there none) (LinkRefuses.hidden {f = g} {it} other of first) =
    absurd (none (it, subst (λ (h : Fact). IsLinkOf p.policy.schema h link it) (some_inj _ _ _ other there) of))
link_fault p b link fact _ _ (LinkRefuses.hidden there of first) (LinkRefuses.no_fact again) = cc (again, there)
link_fault p b link fact _ _ (LinkRefuses.hidden {f} {it} there of first) (LinkRefuses.no_link {f = g} other none) =
    absurd (none (it, subst (λ (h : Fact). IsLinkOf p.policy.schema h link it) (some_inj _ _ _ there other) of))
link_fault p b link fact _ _ (LinkRefuses.hidden {f} {it} {n = m} there of first) (LinkRefuses.hidden {f = g} {it = other} {n} again of_other second) =
    let one : g ≡ f = some_inj _ _ _ again there in
    let same : other ≡ it = link_is p link g f other it one of_other of in
    let at_one = subst (λ (h : Fact). IsFirstWithout (IsNotNullAt b h.terms) other.columns n) one second in
    let own = subst (λ (l : Link). IsFirstWithout (IsNotNullAt b f.terms) l.columns n) same at_one in
    ap CondNotShown (first_one (IsNotNullAt b f.terms) it.columns m n first own)

facts_fault : (b : Branch) (side : Side) (part : Part) (facts : List ℕ) (f g : StepFault) → FactsRefuse b side part facts f → FactsRefuse b side part facts g → f ≡ g
facts_fault b side part facts _ _ (FactsRefuse.no_mapping none) (FactsRefuse.no_mapping again) = refl
facts_fault b side part facts _ _ (FactsRefuse.no_mapping none) (FactsRefuse.hidden mapping first) = absurd (none mapping)
facts_fault b side part facts _ _ (FactsRefuse.hidden mapping first) (FactsRefuse.no_mapping none) = absurd (none mapping)
facts_fault b side part facts _ _ (FactsRefuse.hidden {n = m} mapping first) (FactsRefuse.hidden {n} again second) =
    ap CondNotShown (first_one (IsShown b.known (rows_at b facts)) part.conds m n first second)

rule_fault : (p : Problem) (b : Branch) (rule part : ℕ) (facts : List ℕ) (f g : StepFault) → RuleRefuses p b rule part facts f → RuleRefuses p b rule part facts g → f ≡ g
rule_fault p b rule part facts _ _ (RuleRefuses.no_part none) (RuleRefuses.no_part again) = refl
rule_fault p b rule part facts _ _ (RuleRefuses.no_part none) (RuleRefuses.no_side {it} of again) = absurd (none (it, of))
rule_fault p b rule part facts _ _ (RuleRefuses.no_part none) (RuleRefuses.hidden {it} side of mapping first) = absurd (none (it, of))
rule_fault p b rule part facts _ _ (RuleRefuses.no_side {it} of none) (RuleRefuses.no_part again) = absurd (again (it, of))
rule_fault p b rule part facts _ _ (RuleRefuses.no_side of none) (RuleRefuses.no_side other again) = refl
rule_fault p b rule part facts _ _ (RuleRefuses.no_side {it} of none) (RuleRefuses.hidden {it = other} side again mapping first) =
    absurd (none (side, subst (λ (q : Part). IsMapping b side q.from facts) (rule_part_is p rule part other it again of) mapping))
rule_fault p b rule part facts _ _ (RuleRefuses.hidden {it} side of mapping first) (RuleRefuses.no_part none) = absurd (none (it, of))
rule_fault p b rule part facts _ _ (RuleRefuses.hidden {it} side of mapping first) (RuleRefuses.no_side {it = other} again none) =
    absurd (none (side, subst (λ (q : Part). IsMapping b side q.from facts) (rule_part_is p rule part it other of again) mapping))
rule_fault p b rule part facts _ _ (RuleRefuses.hidden {it} side {n = m} of mapping first) (RuleRefuses.hidden {it = other} second {n} again mapped last) =
    let own = subst (λ (q : Part). IsFirstWithout (IsShown b.known (rows_at b facts)) q.conds n) (rule_part_is p rule part other it again of) last in
    ap CondNotShown (first_one (IsShown b.known (rows_at b facts)) it.conds m n first own)

view_fault : (p : Problem) (b : Branch) (view part : ℕ) (facts : List ℕ) (f g : StepFault) → ViewRefuses p b view part facts f → ViewRefuses p b view part facts g → f ≡ g
view_fault p b view part facts _ _ (ViewRefuses.no_part none) (ViewRefuses.no_part again) = refl
view_fault p b view part facts _ _ (ViewRefuses.no_part none) (ViewRefuses.facts_refuse {it} of refuse) = absurd (none (it, of))
view_fault p b view part facts _ _ (ViewRefuses.facts_refuse {it} of refuse) (ViewRefuses.no_part none) = absurd (none (it, of))
view_fault p b view part facts f g (ViewRefuses.facts_refuse {it} of refuse) (ViewRefuses.facts_refuse {it = other} again refused) =
    facts_fault b One it facts f g refuse (subst (λ (q : Part). FactsRefuse b One q facts g) (view_part_is p view part other it again of) refused)

goal_fault : (p : Problem) (b : Branch) (part : ℕ) (facts : List ℕ) (f g : StepFault) → GoalRefuses p b part facts f → GoalRefuses p b part facts g → f ≡ g
goal_fault p b part facts _ _ (GoalRefuses.no_part none) (GoalRefuses.no_part again) = refl
goal_fault p b part facts _ _ (GoalRefuses.no_part none) (GoalRefuses.facts_refuse there refuse) = cc (none, there)
goal_fault p b part facts _ _ (GoalRefuses.no_part none) (GoalRefuses.head there passed first) = cc (none, there)
goal_fault p b part facts _ _ (GoalRefuses.facts_refuse there refuse) (GoalRefuses.no_part none) = cc (none, there)
goal_fault p b part facts f g (GoalRefuses.facts_refuse {it} there refuse) (GoalRefuses.facts_refuse {it = other} again refused) =
    facts_fault b Two it facts f g refuse (subst (λ (q : Part). FactsRefuse b Two q facts g) (some_inj _ _ _ again there) refused)
goal_fault p b part facts f _ (GoalRefuses.facts_refuse {it} there refuse) (GoalRefuses.head {it = other} again passed first) =
    absurd (facts_not_both b Two other facts f passed
    (subst (λ (q : Part). FactsRefuse b Two q facts f) (some_inj _ _ _ there again) refuse))
goal_fault p b part facts _ _ (GoalRefuses.head there passed first) (GoalRefuses.no_part none) = cc (none, there)
goal_fault p b part facts _ g (GoalRefuses.head {it} there passed first) (GoalRefuses.facts_refuse {it = other} again refuse) =
    absurd (facts_not_both b Two it facts g passed
    (subst (λ (q : Part). FactsRefuse b Two q facts g) (some_inj _ _ _ again there) refuse))
goal_fault p b part facts _ _ (GoalRefuses.head {it} {n = m} there passed first) (GoalRefuses.head {it = other} {n} again passes second) =
    let own = subst (λ (q : Part). IsFirstDifferent b (row_of b facts q.head) n) (some_inj _ _ _ again there) second in
    ap HeadDiffers (first_one (λ two. AreTheSame b.known two.0 two.1) (zip (row_of b facts it.head) (map Some b.goal)) m n first own)

split_fault : (b : Branch) (atom : TermAtom) (f g : StepFault) → SplitRefuses b atom f → SplitRefuses b atom g → f ≡ g
split_fault b atom _ _ (SplitRefuses.no_unknown none) (SplitRefuses.no_unknown again) = refl
split_fault b atom _ _ (SplitRefuses.no_unknown none) (SplitRefuses.unfit there unfit) = absurd (none there)
split_fault b atom _ _ (SplitRefuses.unfit there unfit) (SplitRefuses.no_unknown none) = absurd (none there)
split_fault b atom _ _ (SplitRefuses.unfit there unfit) (SplitRefuses.unfit again also) = refl

pub one_fault : (p : Problem) (b : Branch) (step : Step) (f g : StepFault) → Refuses p b step f → Refuses p b step g → f ≡ g
one_fault p b (steps.Entry branch entry) f g left right = left.1 ∙ sym right.1
one_fault p b (steps.Key branch key first second) f g left right = key_fault p b key first second f g left right
one_fault p b (steps.Link branch link fact) f g left right = link_fault p b link fact f g left right
one_fault p b (steps.Rule branch rule part facts) f g left right = rule_fault p b rule part facts f g left right
one_fault p b (steps.View branch view part facts) f g left right = view_fault p b view part facts f g left right
one_fault p b (steps.Split branch atom) f g left right = split_fault b atom f g left right
one_fault p b (steps.Absurd branch) f g left right = left.1 ∙ sym right.1
one_fault p b (steps.Goal branch part facts) f g left right = goal_fault p b part facts f g left right
