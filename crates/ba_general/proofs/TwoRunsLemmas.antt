-- Two runs of steps beside each other: what is left where one and then the other is left out is what is left where both are at once.
use Rattle.std.proofs.Common.{◌≡◌, ℕ, zero, suc, ◌+◌, ◌-◌, ◌<◌, ◌≤◌, inl, inr, List, [], ◌∷◌, ◌++◌, length, map, take, drop, replicate, refl, sym, ap, ap₂, ◌∙◌, subst, append-nil, arith}
use Rattle.std.specs.Prelude.{Option, Some, None, slice_get, slice_set}
use Rattle.std.specs.List.{AllZip}
use Rattle.std.proofs.lemmas.List.{length-append, length-map, length-set}
use Rattle.std.proofs.lemmas.List.Sums.{sum_by-append}
use Rattle.std.proofs.lemmas.Option.{none-some, same_Some}
use Rattle.ba_facts.specs.declared.term.Term.{Term}
use Rattle.ba_facts.specs.declared.term.Term.TheVariants as terms
use Rattle.ba_facts.specs.declared.term.TermAtom.{TermAtom}
use Rattle.ba_kernel.specs.Courses.{branch_of}
use Rattle.ba_kernel.specs.declared.problem.Problem.{Problem}
use Rattle.ba_kernel.specs.declared.step.Step.{Step}
use Rattle.ba_kernel.specs.declared.step.Step.TheVariants as steps
use Rattle.ba_model.specs.SchemaFaults.{columns_of}
use Rattle.ba_model.specs.declared.schema.Schema.{Schema}
use Rattle.ba_general.proofs.GrowthLemmas.{zip_set}
use Rattle.ba_general.proofs.MakesLemmas.{zip_wide}
use Rattle.ba_general.specs.Layouts.{Layout, adds, layout_after, one_of_table, put_cases, start_layout, tables_on, target_of, wide}
use Rattle.ba_general.specs.Leaving.{AreOthers, CanNotBeLeftOut, Gaps, IsClosedUp, IsLeftOut, IsMoved, IsMovedAtom, IsMovedBy, IsMovedTerm, IsWithout, gap_made, gap_on, gaps_after, gaps_with, longer, longer_span, made, made_by, made_from, middle}
use Rattle.ba_general.specs.declared.gap.Gap.{Gap}
use Rattle.ba_general.specs.declared.gap.Span.{Span}
use Rattle.ba_general.specs.declared.making.Made.{Made}

-- ---- steps that are moved twice

closed_twice : (a b : Span) (n m k : ℕ) → b.first ≡ a.first + a.count → IsClosedUp b n m → IsClosedUp a m k → IsClosedUp (longer_span a b) n k
closed_twice a b n m k e (inl h) (inl g) = inl (omega (arith, h.0, h.1, g.0), g.1 ∙ h.1)
closed_twice a b n m k e (inl h) (inr g) = absurd (omega (arith, e, h.0, h.1, g.0))
closed_twice a b n m k e (inr h) (inl g) = absurd (omega (arith, e, h.0, h.1, g.0))
closed_twice a b n m k e (inr h) (inr g) = inr (omega (arith, e, h.0), omega (arith, h.1, g.1))

zip_twice : {X Y Z : Type 0} (R : X → Y → Type 0) (S : Y → Z → Type 0) (T : X → Z → Type 0) → ((x : X) (y : Y) (z : Z) → R x y → S y z → T x z) →
    (xs : List X) (ys : List Y) (zs : List Z) → AllZip R xs ys → AllZip S ys zs → AllZip T xs zs
zip_twice R S T both [] [] [] h k = tt
zip_twice R S T both [] [] (z ∷ zs) h k = absurd k
zip_twice R S T both [] (y ∷ ys) zs h k = absurd h
zip_twice R S T both (x ∷ xs) [] zs h k = absurd h
zip_twice R S T both (x ∷ xs) (y ∷ ys) [] h k = absurd k
zip_twice R S T both (x ∷ xs) (y ∷ ys) (z ∷ zs) h k = (both x y z h.0 k.0, zip_twice R S T both xs ys zs h.1 k.1)

-- the second gap begins where the first one ends
record Follows (a b : Gap) : Type 0 where
  facts : b.facts.first ≡ a.facts.first + a.facts.count
  unknowns : b.unknowns.first ≡ a.unknowns.first + a.unknowns.count

module _ (a b : Gap) (f : Follows a b) where
  abbrev both : Gap
  both = longer (Some a) b

  term_twice : (t u v : Term) → IsMovedTerm b t u → IsMovedTerm a u v → IsMovedTerm both t v
  term_twice (terms.Unknown n) u v h k =
      let again : IsMovedTerm a (terms.Unknown h.0) v = subst (λ x. IsMovedTerm a x v) h.2 k in
      (again.0, closed_twice a.unknowns b.unknowns n h.0 again.0 f.unknowns h.1 again.1, again.2)
  term_twice (terms.Val x) u v h k = subst (λ y. IsMovedTerm a y v) h k
  term_twice (terms.Param n) u v h k = subst (λ y. IsMovedTerm a y v) h k
  term_twice (terms.Var n) u v h k = subst (λ y. IsMovedTerm a y v) h k

  atom_twice : (t u v : TermAtom) → IsMovedAtom b t u → IsMovedAtom a u v → IsMovedAtom both t v
  atom_twice t u v h k =
      record { op = k.op ∙ h.op; left = term_twice t.left u.left v.left h.left k.left; right = term_twice t.right u.right v.right h.right k.right }

  fact_twice : (n m k : ℕ) → IsClosedUp b.facts n m → IsClosedUp a.facts m k → IsClosedUp both.facts n k
  fact_twice n m k h g = closed_twice a.facts b.facts n m k f.facts h g

  facts_twice : (xs ys zs : List ℕ) → AllZip (IsClosedUp b.facts) xs ys → AllZip (IsClosedUp a.facts) ys zs → AllZip (IsClosedUp both.facts) xs zs
  facts_twice xs ys zs h k = zip_twice (IsClosedUp b.facts) (IsClosedUp a.facts) (IsClosedUp both.facts) fact_twice xs ys zs h k

  step_twice : (step new last : Step) → IsMoved b step new → IsMoved a new last → IsMoved both step last
  step_twice (steps.Entry branch entry) new last (IsMoved.entry) (IsMoved.entry) = IsMoved.entry
  step_twice (steps.Key branch key left right) new last (IsMoved.key {newleft = l1} {newright = r1} h1 h2) (IsMoved.key {newleft = l2} {newright = r2} k1 k2) =
      IsMoved.key (fact_twice left l1 l2 h1 k1) (fact_twice right r1 r2 h2 k2)
  step_twice (steps.Link branch link fact) new last (IsMoved.link {new = f1} h) (IsMoved.link {new = f2} k) = IsMoved.link (fact_twice fact f1 f2 h k)
  step_twice (steps.Rule branch rule part facts) new last (IsMoved.rule {new = f1} h) (IsMoved.rule {new = f2} k) = IsMoved.rule (facts_twice facts f1 f2 h k)
  step_twice (steps.View branch view part facts) new last (IsMoved.view {new = f1} h) (IsMoved.view {new = f2} k) = IsMoved.view (facts_twice facts f1 f2 h k)
  step_twice (steps.Split branch atom) new last (IsMoved.split {new = a1} h) (IsMoved.split {new = a2} k) = IsMoved.split (atom_twice atom a1 a2 h k)
  step_twice (steps.Absurd branch) new last (IsMoved.absurd) (IsMoved.absurd) = IsMoved.absurd
  step_twice (steps.Goal branch part facts) new last (IsMoved.goal {new = f1} h) (IsMoved.goal {new = f2} k) = IsMoved.goal (facts_twice facts f1 f2 h k)

moved_branch : (gap : Gap) (step new : Step) → IsMoved gap step new → branch_of new ≡ branch_of step
moved_branch gap (steps.Entry branch entry) new (IsMoved.entry) = refl
moved_branch gap (steps.Key branch key left right) new (IsMoved.key h1 h2) = refl
moved_branch gap (steps.Link branch link fact) new (IsMoved.link h) = refl
moved_branch gap (steps.Rule branch rule part facts) new (IsMoved.rule h) = refl
moved_branch gap (steps.View branch view part facts) new (IsMoved.view h) = refl
moved_branch gap (steps.Split branch atom) new (IsMoved.split h) = refl
moved_branch gap (steps.Absurd branch) new (IsMoved.absurd) = refl
moved_branch gap (steps.Goal branch part facts) new (IsMoved.goal h) = refl

same_branch : (gap : Option Gap) (step new : Step) → IsMovedBy gap step new → branch_of new ≡ branch_of step
same_branch None step new h = ap branch_of h
same_branch (Some gap) step new h = moved_branch gap step new h

-- ---- how many branches a step makes

one_few : (table : Option ℕ) → length (one_of_table table) - 1 ≡ 0
one_few None = refl
one_few (Some table) = refl

link_few : (p : Problem) (tables : List ℕ) (link fact : ℕ) → length (target_of p tables link fact) - 1 ≡ 0
link_few p tables link fact = one_few _

moved_count : (p : Problem) (tables : List ℕ) (gap : Gap) (step new : Step) → IsMoved gap step new → length (adds p tables new) - 1 ≡ length (adds p tables step) - 1
moved_count p tables gap (steps.Entry branch entry) new (IsMoved.entry) = refl
moved_count p tables gap (steps.Key branch key left right) new (IsMoved.key h1 h2) = refl
moved_count p tables gap (steps.Link branch link fact) new (IsMoved.link {new = other} h) = link_few p tables link other ∙ sym (link_few p tables link fact)
moved_count p tables gap (steps.Rule branch rule part facts) new (IsMoved.rule h) = refl
moved_count p tables gap (steps.View branch view part facts) new (IsMoved.view h) = refl
moved_count p tables gap (steps.Split branch atom) new (IsMoved.split h) = refl
moved_count p tables gap (steps.Absurd branch) new (IsMoved.absurd) = refl
moved_count p tables gap (steps.Goal branch part facts) new (IsMoved.goal h) = refl

same_count : (p : Problem) (tables : List ℕ) (gap : Option Gap) (step new : Step) → IsMovedBy gap step new → length (adds p tables new) - 1 ≡ length (adds p tables step) - 1
same_count p tables None step new h = ap (λ s. length (adds p tables s) - 1) h
same_count p tables (Some gap) step new h = moved_count p tables gap step new h

-- whatever the tables of the branch are
any_count : (p : Problem) (tables others : List ℕ) (step : Step) → length (adds p tables step) - 1 ≡ length (adds p others step) - 1
any_count p tables others (steps.Entry branch entry) = refl
any_count p tables others (steps.Key branch key left right) = refl
any_count p tables others (steps.Link branch link fact) = link_few p tables link fact ∙ sym (link_few p others link fact)
any_count p tables others (steps.Rule branch rule part facts) = refl
any_count p tables others (steps.View branch view part facts) = refl
any_count p tables others (steps.Split branch atom) = refl
any_count p tables others (steps.Absurd branch) = refl
any_count p tables others (steps.Goal branch part facts) = refl

put_more : (layout : Layout) (n : ℕ) (tables : List ℕ) (cases : Layout) → length (put_cases layout n tables cases) - length layout ≡ length cases - 1
put_more layout n tables [] = omega arith
put_more layout n tables (added ∷ others) =
    let all : length (slice_set layout n (tables ++ added) ++ map (λ more. tables ++ more) others) ≡ length layout + length others =
    length-append (slice_set layout n (tables ++ added)) (map (λ more. tables ++ more) others) ∙
    ap₂ (λ x y. x + y) (length-set layout n (tables ++ added)) (length-map others (λ more. tables ++ more)) in
    omega (arith, all)

abbrev news : Made → ℕ
news it = it.after - it.before

same_news : (p : Problem) (layout half : Layout) (gap : Option Gap) (step new : Step) → IsMovedBy gap step new → news (made_by p layout step) ≡ news (made_by p half new)
same_news p layout half gap step new h =
    put_more layout (branch_of step) (tables_on layout (branch_of step)) (adds p (tables_on layout (branch_of step)) step) ∙
    (any_count p (tables_on layout (branch_of step)) (tables_on half (branch_of new)) step ∙
    (sym (same_count p (tables_on half (branch_of new)) gap step new h) ∙
    sym (put_more half (branch_of new) (tables_on half (branch_of new)) (adds p (tables_on half (branch_of new)) new))))

-- ---- the gaps of two runs, and those of both at once

abbrev joined : Option Gap → Option Gap → Option Gap
joined None b = b
joined (Some a) None = Some a
joined (Some a) (Some b) = Some (longer (Some a) b)

abbrev Follow : Option Gap → Option Gap → Type 0
Follow None b = Unit {0}
Follow (Some a) None = Unit {0}
Follow (Some a) (Some b) = Follows a b

record Joint (a b c : Option Gap) : Type 0 where
  is : c ≡ joined a b
  follow : Follow a b

by_both : (a b : Option Gap) (step new last : Step) → Follow a b → IsMovedBy b step new → IsMovedBy a new last → IsMovedBy (joined a b) step last
by_both None None step new last f h k = k ∙ h
by_both None (Some b) step new last f h k = subst (IsMoved b step) (sym k) h
by_both (Some a) None step new last f h k = subst (λ s. IsMoved a s last) h k
by_both (Some a) (Some b) step new last f h k = step_twice a b f step new last h k

moved_twice : (a b c : Option Gap) (step new last : Step) → Joint a b c → IsMovedBy b step new → IsMovedBy a new last → IsMovedBy c step last
moved_twice a b c step new last j h k = subst (λ g. IsMovedBy g step last) (sym j.is) (by_both a b step new last j.follow h k)

alone : (a : Option Gap) → Joint a None a
alone None = record { is = refl; follow = tt }
alone (Some a) = record { is = refl; follow = tt }

-- branch by branch
data Joins : Gaps → Gaps → Gaps → Type 0 where
  empty : Joins [] [] []
  each : {a b c : Option Gap} {xs ys zs : Gaps} → Joint a b c → Joins xs ys zs → Joins (a ∷ xs) (b ∷ ys) (c ∷ zs)

joint_at : {xs ys zs : Gaps} → Joins xs ys zs → (n : ℕ) → Joint (gap_on xs n) (gap_on ys n) (gap_on zs n)
joint_at Joins.empty n = record { is = refl; follow = tt }
joint_at (Joins.each j js) zero = j
joint_at (Joins.each j js) (suc n) = joint_at js n

joins_same : {a b c : Option Gap} → Joint a b c → (k : ℕ) → Joins (replicate k a) (replicate k b) (replicate k c)
joins_same j zero = Joins.empty
joins_same j (suc k) = Joins.each j (joins_same j k)

joins_more : {xs ys zs : Gaps} {a b c : Option Gap} → Joins xs ys zs → Joint a b c → (k : ℕ) → Joins (xs ++ replicate k a) (ys ++ replicate k b) (zs ++ replicate k c)
joins_more Joins.empty j k = joins_same j k
joins_more (Joins.each i js) j k = Joins.each i (joins_more js j k)

joins_set : {xs ys zs : Gaps} → Joins xs ys zs → (n : ℕ) (y z : Option Gap) → Joint (gap_on xs n) y z → Joins xs (slice_set ys n y) (slice_set zs n z)
joins_set Joins.empty n y z j = Joins.empty
joins_set (Joins.each i js) zero y z j = Joins.each j js
joins_set (Joins.each i js) (suc n) y z j = Joins.each i (joins_set js n y z j)

joins_none : (gaps : Gaps) → Joins gaps (replicate (length gaps) None) gaps
joins_none [] = Joins.empty
joins_none (gap ∷ gaps) = Joins.each (alone gap) (joins_none gaps)

-- ---- gaps that reach to the end of what is known of their branches

abbrev Reached : Schema → List ℕ → Option Gap → Type 0
Reached s tables None = Unit {0}
Reached s tables (Some g) = (length tables ≡ g.facts.first + g.facts.count) × (wide s tables ≡ g.unknowns.first + g.unknowns.count)

reached_none : (s : Schema) (layout : Layout) (n : ℕ) → n ≡ length layout → AllZip (Reached s) layout (replicate n None)
reached_none s [] zero e = tt
reached_none s [] (suc n) e = absurd (omega (arith, e))
reached_none s (tables ∷ layout) zero e = absurd (omega (arith, e))
reached_none s (tables ∷ layout) (suc n) e = (tt, reached_none s layout n (omega (arith, e)))

reached_at : (s : Schema) (layout : Layout) (gaps : Gaps) (n : ℕ) → AllZip (Reached s) layout gaps → Reached s (tables_on layout n) (gap_on gaps n)
reached_at s [] [] n h = tt
reached_at s [] (gap ∷ gaps) n h = absurd h
reached_at s (tables ∷ layout) [] n h = absurd h
reached_at s (tables ∷ layout) (gap ∷ gaps) zero h = h.0
reached_at s (tables ∷ layout) (gap ∷ gaps) (suc n) h = reached_at s layout gaps n h.1

-- the gap of one case, which adds facts of these tables
record IsOfCase (s : Schema) (tables : List ℕ) (cases : Layout) (gap : Gap) : Type 0 where
  added : List ℕ
  cases_are : cases ≡ added ∷ []
  first_fact : gap.facts.first ≡ length tables
  facts : gap.facts.count ≡ length added
  first_unknown : gap.unknowns.first ≡ wide s tables
  unknowns : gap.unknowns.count ≡ wide s added

gap_told : (s : Schema) (tables : List ℕ) (cases : Layout) (gap : Gap) → gap_made s tables cases ≡ Some gap → IsOfCase s tables cases gap
gap_told s tables [] gap e = absurd (none-some gap e)
gap_told s tables (added ∷ []) gap e =
    let is = same_Some gap _ (sym e) in
    record {
      added = added;
      cases_are = refl;
      first_fact = ap (λ (g : Gap). g.facts.first) is;
      facts = ap (λ (g : Gap). g.facts.count) is;
      first_unknown = ap (λ (g : Gap). g.unknowns.first) is;
      unknowns = ap (λ (g : Gap). g.unknowns.count) is;
    }
gap_told s tables (added ∷ other ∷ others) gap e = absurd (none-some gap e)

first_count : (n t a first count : ℕ) → n ≡ t + a → first ≡ t → count ≡ a → n ≡ first + count
first_count n t a first count e f g = omega (arith, e, f, g)

more_count : (n t a first count next : ℕ) → n ≡ t + a → t ≡ first + count → next ≡ a → n ≡ first + (count + next)
more_count n t a first count next e f g = omega (arith, e, f, g)

module _ (s : Schema) (tables : List ℕ) (cases : Layout) (gap : Gap) (is : IsOfCase s tables cases gap) where
  reached_more : (old : Option Gap) → Reached s tables old → Reached s (tables ++ is.added) (Some (longer old gap))
  reached_more None h =
      let facts : length (tables ++ is.added) ≡ length tables + length is.added = length-append tables is.added in
      let unknowns : wide s (tables ++ is.added) ≡ wide s tables + wide s is.added =
      sum_by-append (λ table. length (columns_of s.tables table)) tables is.added in
      (first_count _ _ _ _ _ facts is.first_fact is.facts, first_count _ _ _ _ _ unknowns is.first_unknown is.unknowns)
  reached_more (Some old) h =
      let facts : length (tables ++ is.added) ≡ length tables + length is.added = length-append tables is.added in
      let unknowns : wide s (tables ++ is.added) ≡ wide s tables + wide s is.added =
      sum_by-append (λ table. length (columns_of s.tables table)) tables is.added in
      (more_count _ _ _ _ _ _ facts h.0 is.facts, more_count _ _ _ _ _ _ unknowns h.1 is.unknowns)

  next_joint : (a b : Option Gap) → Reached s tables (joined a b) → Follow a b → Joint a (Some (longer b gap)) (Some (longer (joined a b) gap))
  next_joint None b h f = record { is = refl; follow = tt }
  next_joint (Some a) None h f =
      record { is = refl; follow = record { facts = is.first_fact ∙ h.0; unknowns = is.first_unknown ∙ h.1 } }
  next_joint (Some a) (Some b) h f =
      let facts : (a.facts.count + b.facts.count) + gap.facts.count ≡ a.facts.count + (b.facts.count + gap.facts.count) = omega arith in
      let unknowns : (a.unknowns.count + b.unknowns.count) + gap.unknowns.count ≡ a.unknowns.count + (b.unknowns.count + gap.unknowns.count) = omega arith in
      record {
        is =
            ap₂ (λ (n m : ℕ).
            Some (record { facts = record { first = a.facts.first; count = n }; unknowns = record { first = a.unknowns.first; count = m } })) facts unknowns;
        follow = record { facts = f.facts; unknowns = f.unknowns };
      }

  joint_next : (a b c : Option Gap) → Reached s tables c → Joint a b c → Joint a (Some (longer b gap)) (Some (longer c gap))
  joint_next a b c h j =
      subst (λ x. Joint a (Some (longer b gap)) (Some (longer x gap))) (sym j.is) (next_joint a b (subst (Reached s tables) j.is h) j.follow)

reached_next : (p : Problem) (layout : Layout) (gaps : Gaps) (step : Step) (gap : Gap) → AllZip (Reached p.policy.schema) layout gaps →
    (made_by p layout step).gap ≡ Some gap → AllZip (Reached p.policy.schema) (layout_after p layout step) (gaps_with gaps (branch_of step) gap)
reached_next p layout gaps step gap h e =
    let at = branch_of step in
    let tables = tables_on layout at in
    let is = gap_told p.policy.schema tables (adds p tables step) gap e in
    let after : layout_after p layout step ≡ slice_set layout at (tables ++ is.added) =
    ap (put_cases layout at tables) is.cases_are ∙ append-nil (slice_set layout at (tables ++ is.added)) in
    subst (λ l. AllZip (Reached p.policy.schema) l (gaps_with gaps at gap)) (sym after)
    (zip_set (Reached p.policy.schema) layout gaps at (tables ++ is.added) (Some (longer (gap_on gaps at) gap)) h
    (reached_more p.policy.schema tables (adds p tables step) gap is (gap_on gaps at) (reached_at p.policy.schema layout gaps at h)))

-- ---- what stays behind both runs

tail_twice : (p : Problem) (later rest last : List Step) (layout half : Layout) (xs ys zs : Gaps) → Joins xs ys zs →
    AreOthers ys zero later (made_from p layout later) rest → AreOthers xs zero rest (made_from p half rest) last →
    AreOthers zs zero later (made_from p layout later) last
tail_twice p [] rest last layout half xs ys zs j (AreOthers.none) (AreOthers.none) = AreOthers.none
tail_twice p (step ∷ later) all others layout half xs ys zs j (AreOthers.stays {moved = new} {rest = rest} m h) (AreOthers.stays {moved = end} {rest = last} n k) =
    let at = branch_of step in
    let here : branch_of new ≡ branch_of step = same_branch (gap_on ys at) step new m in
    let again : IsMovedBy (gap_on xs at) new end = subst (λ b. IsMovedBy (gap_on xs b) new end) here n in
    let it = made_by p layout step in
    let count : news it ≡ news (made_by p half new) = same_news p layout half (gap_on ys at) step new m in
    let behind : replicate (news it) (gap_on xs at) ≡ replicate (news (made_by p half new)) (gap_on xs (branch_of new)) =
    ap₂ (λ c b. replicate c (gap_on xs b)) count (sym here) in
    AreOthers.stays (moved_twice (gap_on xs at) (gap_on ys at) (gap_on zs at) step new end (joint_at j at) m again)
    (tail_twice p later rest last (layout_after p layout step) (layout_after p half new) (gaps_after xs new (made_by p half new)) (gaps_after ys step it) (gaps_after zs step it)
    (subst (λ more. Joins (xs ++ more) (gaps_after ys step it) (gaps_after zs step it)) behind (joins_more j (joint_at j at) (news it))) h k)

-- ---- the second run, and what stays behind it

run_twice : (p : Problem) (left : ℕ) (later rest last : List Step) (layout half : Layout) (xs ys zs : Gaps) → AllZip (Reached p.policy.schema) layout zs → Joins xs ys zs →
    AreOthers ys left later (made_from p layout later) rest → AreOthers xs zero rest (made_from p half rest) last →
    AreOthers zs left later (made_from p layout later) last
run_twice p zero later rest last layout half xs ys zs r j h k = tail_twice p later rest last layout half xs ys zs j h k
run_twice p (suc left) [] rest last layout half xs ys zs r j (AreOthers.none) (AreOthers.none) = AreOthers.none
run_twice p (suc left) (step ∷ later) rest last layout half xs ys zs r j (AreOthers.gone {gap = gap} e h) k =
    let at = branch_of step in
    let tables = tables_on layout at in
    let is = gap_told p.policy.schema tables (adds p tables step) gap e in
    AreOthers.gone e
    (run_twice p left later rest last (layout_after p layout step) half xs (gaps_with ys at gap) (gaps_with zs at gap) (reached_next p layout zs step gap r e)
    (joins_set j at (Some (longer (gap_on ys at) gap)) (Some (longer (gap_on zs at) gap))
    (joint_next p.policy.schema tables (adds p tables step) gap is (gap_on xs at) (gap_on ys at) (gap_on zs at) (reached_at p.policy.schema layout zs at r) (joint_at j at))) h k)

-- ---- from the first run on

first_twice : (p : Problem) (k left all : ℕ) (later rest last : List Step) (layout : Layout) (it : Made) (gaps : Gaps) → all ≡ k + left →
    AllZip (Reached p.policy.schema) layout gaps → slice_get (made_from p layout later) k ≡ Some it →
    AreOthers (replicate it.before None) left (drop k later) (drop k (made_from p layout later)) rest →
    AreOthers gaps k (take k later ++ rest) (made_from p layout (take k later ++ rest)) last → AreOthers gaps all later (made_from p layout later) last
first_twice p zero left all [] rest last layout it gaps count r at h others = absurd (none-some it at)
first_twice p zero left all (step ∷ later) rest last layout it gaps count r at h others =
    let is : made_by p layout step ≡ it = same_Some (made_by p layout step) it at in
    let branches : length gaps ≡ it.before = sym (zip_wide (Reached p.policy.schema) layout gaps r) ∙ ap (λ (m : Made). m.before) is in
    let same : left ≡ all = omega (arith, count) in
    subst (λ n. AreOthers gaps n (step ∷ later) (made_from p layout (step ∷ later)) last) same
    (run_twice p left (step ∷ later) rest last layout layout gaps (replicate it.before None) gaps r
    (subst (λ n. Joins gaps (replicate n None) gaps) branches (joins_none gaps)) h others)
first_twice p (suc k) left all [] rest last layout it gaps count r at h others = absurd (none-some it at)
first_twice p (suc k) left zero (step ∷ later) rest last layout it gaps count r at h others = absurd (omega (arith, count))
first_twice p (suc k) left (suc all) (step ∷ later) rest last layout it gaps count r at h (AreOthers.gone {gap = gap} e others) =
    AreOthers.gone e
    (first_twice p k left all later rest last (layout_after p layout step) it (gaps_with gaps (branch_of step) gap) (omega (arith, count))
    (reached_next p layout gaps step gap r e) at h others)

-- so many steps from the number on are left out
record AreBehind (p : Problem) (layout : Layout) (first left : ℕ) (taken rest : List Step) : Type 0 where
  it : Made
  it_is : slice_get (made_from p layout taken) first ≡ Some it
  others : AreOthers (replicate it.before None) left (drop first taken) (drop first (made_from p layout taken)) rest

behind_twice : (p : Problem) (first middle count left all : ℕ) (taken rest last : List Step) (layout : Layout) → first < middle → count ≡ middle - first →
    all ≡ count + left → AreBehind p layout middle left taken rest → AreBehind p layout first count (take middle taken ++ rest) last → AreBehind p layout first all taken last
behind_twice p first zero count left all taken rest last layout less is sum one two = absurd (omega (arith, less))
behind_twice p zero (suc middle) count left all [] rest last layout less is sum one two = absurd (none-some one.it one.it_is)
behind_twice p zero (suc middle) count left all (step ∷ later) rest last layout less is sum one two =
    let made_is : made_by p layout step ≡ two.it = same_Some (made_by p layout step) two.it two.it_is in
    let branches : two.it.before ≡ length layout = sym (ap (λ (m : Made). m.before) made_is) in
    let same : count ≡ suc middle = omega (arith, is) in
    let mid : List Step = step ∷ (take middle later ++ rest) in
    let total : all ≡ suc middle + left = omega (arith, sum, same) in
    record {
      it = two.it;
      it_is = two.it_is;
      others =
          first_twice p (suc middle) left all (step ∷ later) rest last layout one.it (replicate two.it.before None) total
          (reached_none p.policy.schema layout two.it.before branches) one.it_is one.others
          (subst (λ n. AreOthers (replicate two.it.before None) n mid (made_from p layout mid) last) same two.others);
    }
behind_twice p (suc first) (suc middle) count left all [] rest last layout less is sum one two = absurd (none-some one.it one.it_is)
behind_twice p (suc first) (suc middle) count left all (step ∷ later) rest last layout less is sum one two =
    let behind =
    behind_twice p first middle count left all later rest last (layout_after p layout step) (omega (arith, less)) (omega (arith, is)) sum
    (record { it = one.it; it_is = one.it_is; others = one.others }) (record { it = two.it; it_is = two.it_is; others = two.others }) in
    record { it = behind.it; it_is = behind.it_is; others = behind.others }

front_same : {X : Type 0} (first middle : ℕ) (taken rest : List X) → first ≤ middle → middle ≤ length taken → take first (take middle taken ++ rest) ≡ take first taken
front_same zero middle taken rest less there = refl
front_same (suc first) zero taken rest less there = absurd (omega (arith, less))
front_same (suc first) (suc middle) [] rest less there = absurd (omega (arith, there))
front_same (suc first) (suc middle) (x ∷ taken) rest less there =
    let below : first ≤ middle = omega (arith, less) in
    let within : middle ≤ length taken = omega (arith, there) in
    ap (λ xs. x ∷ xs) (front_same first middle taken rest below within)

both_without : (p : Problem) (taken half rest : List Step) (first middle end : ℕ) → first < middle → middle ≤ end → middle ≤ length taken →
    IsWithout taken (made p taken) middle end half → IsWithout half (made p half) first middle rest → IsWithout taken (made p taken) first end rest
both_without p taken half rest first middle end some less there later earlier =
    let mid : List Step = take middle taken ++ later.moved in
    let two : IsWithout mid (made p mid) first middle rest = subst (λ xs. IsWithout xs (made p xs) first middle rest) later.rest_is earlier in
    let sum : end - first ≡ (middle - first) + (end - middle) = omega (arith, some, less) in
    let behind =
    behind_twice p first middle (middle - first) (end - middle) (end - first) taken later.moved two.moved (start_layout p) some refl sum
    (record { it = later.it; it_is = later.it_is; others = later.others }) (record { it = two.it; it_is = two.it_is; others = two.others }) in
    let before : first ≤ middle = omega (arith, some) in
    record {
      it = behind.it;
      it_is = behind.it_is;
      moved = two.moved;
      others = behind.others;
      rest_is = two.rest_is ∙ ap (λ xs. xs ++ two.moved) (front_same first middle taken later.moved before there);
    }

-- where the later half went at once, the earlier half can't: both together could not
pub earlier_stays : (p : Problem) (taken half : List Step) (first end : ℕ) → 1 < end - first → end ≤ length taken → CanNotBeLeftOut p taken first end →
    IsLeftOut p taken (middle first end) end half → CanNotBeLeftOut p half first (middle first end)
earlier_stays p taken half first end many there refused later rest out =
    refused rest
    (record {
      without =
          both_without p taken half rest first (middle first end) end (omega (arith, many)) (omega (arith, many)) (omega (arith, many, there)) later.without out.without;
      closes = out.closes;
    })
