-- What the cases of rules, keys, links and splits need.
use Rattle.std.proofs.Common.{◌≡◌, ℕ, zero, suc, ◌+◌, ◌<◌, List, [], ◌∷◌, ◌++◌, get_or, length, map, refl, take, ap, ap₂, sym, ◌∙◌, subst, append_assoc, arith}
use Rattle.std.proofs.lemmas.List.{map-append}
use Rattle.std.proofs.lemmas.Grind.{get_or_default_zero}
use Rattle.std.proofs.lemmas.List.Elements.{All-weaker}
use Rattle.std.proofs.lemmas.Option.{same_Some, slice_get_read, slice_get_within}
use Rattle.std.specs.List.{All, range_with_len, zip}
use Rattle.std.specs.Option.{option_map}
use Rattle.std.specs.Prelude.{Option, Some, None, ◌≢◌, option_and_then, slice_get, unwrap_or}
use Rattle.ba_model.specs.Fit.{PartFits, kind_of}
use Rattle.ba_model.specs.SchemaFaults.{columns_of, columns_or}
use Rattle.ba_model.specs.declared.query.Op.{Op}
use Rattle.ba_model.specs.declared.query.Op.TheVariants.{Eq, Ne, Lt, Le, IsNull, NotNull}
use Rattle.ba_model.specs.declared.query.Part.{Part}
use Rattle.ba_model.specs.declared.schema.Column.{Column}
use Rattle.ba_model.specs.declared.schema.Kind.{Kind}
use Rattle.ba_model.specs.declared.schema.Link.{Link}
use Rattle.ba_model.specs.declared.schema.Rule.{Rule}
use Rattle.ba_model.specs.declared.schema.Schema.{Schema}
use Rattle.ba_model.specs.declared.schema.Table.{Table}
use Rattle.ba_kernel.proofs.BuildLemmas.{fact_added}
use Rattle.ba_kernel.proofs.ZipLemmas.{pair_at, taken}
use Rattle.ba_kernel.proofs.BuildNext.{mapped_terms, parts_for, same_count}
use Rattle.ba_kernel.proofs.StepFits.{All-at}
use Rattle.ba_kernel.proofs.TidyLemmas.{facts_there, facts_wide, row_there_more, terms_there, unknowns_kept}
use Rattle.ba_model.specs.RuleFaults.{RuleFits}
use Rattle.ba_kernel.specs.Courses.{LinkFits, ProblemFits}
use Rattle.ba_kernel.specs.Effects.{AreNext, negation, negation_of, rows_at, same_at, same_pair, with_fact, with_lessons}
use Rattle.ba_kernel.specs.Steps.{FactsPass, IsNotNullAt, KeyLeads, KeyPasses, LinkLeads, LinkPasses, RuleLeads, RulePasses, SplitPasses}
use Rattle.ba_kernel.specs.SearchStates.{FactIsTidy, IsTidy}
use Rattle.ba_kernel.specs.Tidy.{FactsAreThere, HasColumns, HasTerm, IsPartFor, Learns, TermsAreThere}
use Rattle.ba_facts.specs.Known.{Known}
use Rattle.ba_facts.specs.Knowing.{IsThere, sort_of}
use Rattle.ba_facts.specs.Laws.{kind_of_term, with_lesson}
use Rattle.ba_facts.specs.Matches.{IsFactOf, IsMapping, terms_at}
use Rattle.ba_facts.specs.declared.branch.Branch.{Branch}
use Rattle.ba_kernel.specs.declared.problem.Problem.{Problem}
use Rattle.ba_facts.specs.declared.term.Fact.{Fact}
use Rattle.ba_facts.specs.declared.term.Lesson.{Lesson}
use Rattle.ba_facts.specs.declared.term.Lesson.TheVariants.{Same}
use Rattle.ba_facts.specs.declared.term.Side.{Side}
use Rattle.ba_facts.specs.declared.term.Sort.{Sort}
use Rattle.ba_facts.specs.declared.term.Term.{Term}
use Rattle.ba_facts.specs.declared.term.Term.TheVariants.{Unknown, Val, Param, Var}
use Rattle.ba_facts.specs.declared.term.TermAtom.{TermAtom}

-- ---- rules

mapping_first : (b : Branch) (side : Side) (from facts : List ℕ) → IsMapping b side from facts → from ≢ [] → (table : ℕ) × IsFactOf b side table (get_or facts 0 0)
mapping_first b side [] facts h some = absurd (some refl)
mapping_first b side (table ∷ from) [] h some = absurd h
mapping_first b side (table ∷ from) (n ∷ facts) h some = (table, h.0)

mapping_some : (b : Branch) (side : Side) (from facts : List ℕ) → IsMapping b side from facts → from ≢ [] → 0 < length facts
mapping_some b side [] facts h some = absurd (some refl)
mapping_some b side (table ∷ from) [] h some = absurd h
mapping_some b side (table ∷ from) (n ∷ facts) h some = omega arith

module _ (p : Problem) (b : Branch) (fits : ProblemFits p) (tidy : IsTidy p b) (rule part : ℕ) (facts : List ℕ) (it : Rule) (left : Part)
    (at_rule : slice_get p.policy.schema.rules rule ≡ Some it) (at_part : slice_get it.left.parts part ≡ Some left) (passes : RulePasses p b rule part facts) where
  rule_fits : RuleFits p.policy.schema it
  rule_fits = All-at (RuleFits p.policy.schema) p.policy.schema.rules rule it fits.rules at_rule

  left_fits : PartFits p.policy.schema [] [] rule_fits.left.fits.kinds left
  left_fits = All-at (PartFits p.policy.schema [] [] rule_fits.left.fits.kinds) it.left.parts part left rule_fits.left.fits.parts at_part

  same_rule : passes.is_part.of ≡ it
  same_rule = same_Some passes.is_part.of it (sym passes.is_part.rule_is ∙ at_rule)

  same_left : passes.it ≡ left
  same_left = same_Some passes.it left (sym passes.is_part.part_is ∙ (ap (λ (r : Rule). slice_get r.left.parts part) same_rule ∙ at_part))

  rule_pass : FactsPass b passes.side left facts
  rule_pass = subst (λ q. FactsPass b passes.side q facts) same_left passes.pass

  first_fact : (table : ℕ) × IsFactOf b passes.side table (get_or facts 0 0)
  first_fact = mapping_first b passes.side left.from facts rule_pass.mapping left_fits.some_table

  pub rule_some : 0 < length facts
  rule_some = mapping_some b passes.side left.from facts rule_pass.mapping left_fits.some_table

  pub rule_first : get_or facts 0 0 < length b.facts
  rule_first = slice_get_within b.facts (get_or facts 0 0) (first_fact.1).fact (first_fact.1).there

  pub rule_terms : All (HasTerm (rows_at b facts)) left.head
  rule_terms = mapped_terms p.policy.schema [] [] rule_fits.left.fits.kinds b passes.side left facts left_fits tidy.facts rule_pass.mapping

  pub rule_parts : All (IsPartFor p.policy.schema (length left.head)) it.right.parts
  rule_parts =
      parts_for p.policy.schema [] [] it.right rule_fits.right.fits (length left.head)
      (ap length rule_fits.kinds ∙ sym (same_count (kind_of p.policy.schema [] [] left.from) left.head rule_fits.left.fits.kinds left_fits.head))

  pub rule_leads : (first : Fact) (parts : List Part) (cases : List Branch) → slice_get b.facts (get_or facts 0 0) ≡ Some first → parts ≡ it.right.parts →
      AreNext p.policy.schema b first.side left facts parts cases → RuleLeads p b rule part facts cases
  rule_leads first parts cases first_is same h =
      let fact_is : first ≡ (first_fact.1).fact = same_Some first (first_fact.1).fact (sym first_is ∙ (first_fact.1).there) in
      let side_is : first.side ≡ passes.side = ap (λ (fact : Fact). fact.side) fact_is ∙ (first_fact.1).side_is in
      record {
        passes = record {
          it = left;
          is_part = record { of = it; rule_is = at_rule; part_is = at_part };
          side = first.side;
          pass = subst (λ side. FactsPass b side left facts) (sym side_is) rule_pass;
        };
        next = subst (λ ps. AreNext p.policy.schema b first.side left facts ps cases) same h;
      }

-- ---- keys

pub pairs_more : {X : Type 0} (g : X → Lesson) (xs : List X) (i : ℕ) (x : X) (old mid new : Branch) → i < length xs → x ≡ get_or xs i x →
    mid ≡ with_lessons old (map g (take i xs)) → new ≡ with_lesson mid (g x) → new ≡ with_lessons old (map g (take (i + 1) xs))
pairs_more g xs i x old mid new below at before here =
    let more : map g (take (i + 1) xs) ≡ map g (take i xs) ++ g x ∷ [] = ap (map g) (taken xs i x below at) ∙ map-append g (take i xs) (x ∷ []) in
    here ∙ (ap (λ c. with_lesson c (g x)) before ∙
    (ap (λ ls. record old { known = record old.known { learned = ls } }) (append_assoc old.known.learned (map g (take i xs)) (g x ∷ [])) ∙
    ap (with_lessons old) (sym more)))

pub fact_terms : (s : Schema) (b new : Branch) (n : ℕ) (f : Fact) (terms : List Term) → All (FactIsTidy s b.known) b.facts → slice_get b.facts n ≡ Some f → terms ≡ f.terms →
    new ≡ b → TermsAreThere new.known terms
fact_terms s b new n f terms tidy at same copied =
    let it = All-at (FactIsTidy s b.known) b.facts n f tidy at in
    subst (λ (c : Branch). TermsAreThere c.known terms) (sym copied) (subst (TermsAreThere b.known) (sym same) it.there)

module _ (p : Problem) (b : Branch) (tidy : IsTidy p b) (key left right : ℕ) (f g : Fact) (at_left : slice_get b.facts left ≡ Some f)
    (at_right : slice_get b.facts right ≡ Some g) (passes : KeyPasses p.policy.schema b key left right) where
  same_f : passes.f ≡ f
  same_f = same_Some passes.f f (sym passes.pair.left_is ∙ at_left)

  same_g : passes.g ≡ g
  same_g = same_Some passes.g g (sym passes.pair.right_is ∙ at_right)

  pub key_wide : (terms others : List Term) → terms ≡ f.terms → others ≡ g.terms → length terms ≡ length others
  key_wide terms others a c =
      let s = p.policy.schema in
      let of_f = All-at (FactIsTidy s b.known) b.facts left f tidy.facts at_left in
      let of_g = All-at (FactIsTidy s b.known) b.facts right g tidy.facts at_right in
      let table_is : g.table ≡ f.table =
      ap (λ (fact : Fact). fact.table) (sym same_g) ∙ (passes.pair.table ∙ ap (λ (fact : Fact). fact.table) same_f) in
      let same : of_f.table ≡ of_g.table =
      same_Some of_f.table of_g.table (sym of_f.table_is ∙ (ap (slice_get s.tables) (sym table_is) ∙ of_g.table_is)) in
      ap length a ∙ (of_f.wide ∙ (ap (λ (t : Table). length t.columns) same ∙ (sym of_g.wide ∙ sym (ap length c))))

  pub key_leads : (terms others : List Term) (copy new : Branch) (cases : List Branch) → terms ≡ f.terms → others ≡ g.terms → copy ≡ b →
      new ≡ with_lessons copy (map same_pair (zip terms others)) → cases ≡ new ∷ [] → KeyLeads p b key left right cases
  key_leads terms others copy new cases a c copied new_is cases_is =
      let terms_are : terms ≡ passes.f.terms = a ∙ ap (λ (fact : Fact). fact.terms) (sym same_f) in
      let others_are : others ≡ passes.g.terms = c ∙ ap (λ (fact : Fact). fact.terms) (sym same_g) in
      record {
        passes = passes;
        cases_are =
            cases_is ∙ ap (λ (one : Branch). one ∷ []) (new_is ∙
            (ap (λ one. with_lessons one (map same_pair (zip terms others))) copied ∙ ap (λ pairs. with_lessons b (map same_pair pairs)) (ap₂ zip terms_are others_are)));
      }

-- ---- links

pub same_lesson : (left right : List Term) (i j : ℕ) (a b : Term) → slice_get left i ≡ Some a → slice_get right j ≡ Some b → same_at left right (i, j) ≡ Some (Same a b)
same_lesson left right i j a b l r = ap₂ (λ o p. option_and_then (λ x. option_map (λ y. Same x y) p) o) l r

pub pair_numbers : (xs ys : List ℕ) (n : ℕ) → length xs ≡ length ys → n < length xs →
    (get_or xs n 0, get_or ys n 0) ≡ get_or (zip xs ys) n (get_or xs n 0, get_or ys n 0)
pair_numbers xs ys n wide below =
    let other : n < length ys = omega arith in
    pair_at xs ys n (get_or xs n 0) (get_or ys n 0) wide below (sym (get_or_default_zero xs n (get_or xs n 0) below))
    (sym (get_or_default_zero ys n (get_or ys n 0) other))

-- columns of two rows, which have them
pub pair_lesson : (left right : List Term) (columns others : List ℕ) (n : ℕ) (a c : Term) → HasColumns left columns →
    HasColumns right others → length columns ≡ length others → n < length columns → a ≡ get_or left (get_or columns n 0) a →
    c ≡ get_or right (get_or others n 0) c →
    same_at left right (get_or columns n 0, get_or others n 0) ≡ Some (Same a c)
pair_lesson left right columns others n a c has_left has_right wide below left_at right_at =
    let other : n < length others = omega arith in
    same_lesson left right (get_or columns n 0) (get_or others n 0) a c
    (slice_get_read left (length left) (get_or columns n 0) a refl (has_left n 0 below) left_at)
    (slice_get_read right (length right) (get_or others n 0) c refl (has_right n 0 other) right_at)

column_within : {X : Type 0} (xs : List X) (n : ℕ) → slice_get xs n ≢ None → n < length xs
column_within [] n there = absurd (there refl)
column_within (x ∷ xs) zero there = omega arith
column_within (x ∷ xs) (suc n) there = let later = column_within xs n there in omega arith

module _ (p : Problem) (b : Branch) (tidy : IsTidy p b) (link fact : ℕ) (f : Fact) (table : Table) (it : Link) (at_fact : slice_get b.facts fact ≡ Some f)
    (at_table : slice_get p.policy.schema.tables f.table ≡ Some table) (at_link : slice_get table.links link ≡ Some it)
    (passes : LinkPasses p.policy.schema b link fact) where
  abbrev targeted : Branch
  targeted = with_fact p.policy.schema f.side (1 + f.round) b it.target

  module _ (copy new : Branch) (columns : List Column) (round : ℕ) (copied : copy ≡ b) (columns_are : columns ≡ columns_of p.policy.schema.tables it.target)
      (round_is : round ≡ 1 + f.round)
      (new_is : new ≡ record copy {
        known = record copy.known { unknowns = copy.known.unknowns ++ map sort_of columns };
        facts = copy.facts ++ record {
          side = f.side;
          table = it.target;
          terms = map Unknown (range_with_len (length copy.known.unknowns) (length columns));
          round = round;
        } ∷ [];
      }) where
    target_is : new ≡ targeted
    target_is =
        fact_added p.policy.schema f.side round copy new it.target columns columns_are new_is ∙
        ap₂ (λ n c. with_fact p.policy.schema f.side n c it.target) round_is copied

    all_there : FactsAreThere targeted
    all_there =
        facts_there p.policy.schema f.side (1 + f.round) (it.target ∷ []) b
        (record {
          facts = All-weaker (FactIsTidy p.policy.schema b.known) (λ (fact : Fact). TermsAreThere b.known fact.terms) (λ fact h. h.there) b.facts tidy.facts;
        })

    pub link_left : (left : List Term) → left ≡ f.terms → TermsAreThere new.known left
    link_left left same =
        let old = fact_terms p.policy.schema b b fact f left tidy.facts at_fact same refl in
        subst (λ (c : Branch). TermsAreThere c.known left) (sym target_is)
        (row_there_more b.known targeted.known (unknowns_kept p.policy.schema f.side (1 + f.round) (it.target ∷ []) b) left old)

    module _ (n : ℕ) (added : Fact) (copied_terms right : List Term) (n_is : n ≡ length b.facts) (added_is : slice_get new.facts n ≡ Some added)
        (terms_are : copied_terms ≡ added.terms) (right_is : right ≡ copied_terms) where
      right_at : right ≡ terms_at targeted (length b.facts)
      right_at =
          let here : terms_at new n ≡ added.terms = ap (λ o. unwrap_or (option_map (λ (fact : Fact). fact.terms) o) []) added_is in
          right_is ∙ (terms_are ∙ (sym here ∙ ap₂ terms_at target_is n_is))

      pub link_right : TermsAreThere new.known right
      link_right =
          subst (λ (c : Branch). TermsAreThere c.known right) (sym target_is)
          (subst (TermsAreThere targeted.known) (sym right_at) (terms_there targeted (length b.facts) all_there))

      same_link_fact : passes.f ≡ f
      same_link_fact = same_Some passes.f f (sym passes.fact_is ∙ at_fact)

      same_link_table : passes.link_of.table ≡ table
      same_link_table =
          same_Some passes.link_of.table table
          (sym passes.link_of.table_is ∙ (ap (λ (fact : Fact). slice_get p.policy.schema.tables fact.table) same_link_fact ∙ at_table))

      same_link : passes.it ≡ it
      same_link = same_Some passes.it it (sym passes.link_of.link_is ∙ (ap (λ (t : Table). slice_get t.links link) same_link_table ∙ at_link))

      module _ (fits : ProblemFits p) where
        link_fits : LinkFits p.policy.schema it
        link_fits =
            All-at (LinkFits p.policy.schema) table.links link it
            (All-at (λ (t : Table). All (LinkFits p.policy.schema) t.links) p.policy.schema.tables f.table table fits.links at_table) at_link

        pub link_wide : (from to : List ℕ) → from ≡ it.columns → to ≡ it.target_columns → length from ≡ length to
        link_wide from to from_is to_is = ap length from_is ∙ (link_fits.wide ∙ sym (ap length to_is))

        pub link_columns : (left : List Term) (from : List ℕ) → left ≡ f.terms → from ≡ it.columns → HasColumns left from
        link_columns left from left_is from_is =
            let not_null : All (IsNotNullAt b f.terms) it.columns =
            subst (λ (fact : Fact). All (IsNotNullAt b fact.terms) it.columns) same_link_fact
            (subst (λ (l : Link). All (IsNotNullAt b passes.f.terms) l.columns) same_link passes.not_null) in
            let has : HasColumns f.terms it.columns =
            All-weaker (IsNotNullAt b f.terms) (λ n. n < length f.terms) (λ n h. slice_get_within f.terms n h.a h.there) it.columns not_null in
            subst (λ (ts : List Term). HasColumns ts from) (sym left_is) (subst (HasColumns f.terms) (sym from_is) has)

        pub link_others : (to : List ℕ) → to ≡ it.target_columns → HasColumns right to
        link_others to to_is =
            let rows = facts_wide p.policy.schema f.side (1 + f.round) (it.target ∷ []) b in
            let columns_are : columns_of p.policy.schema.tables it.target ≡ (link_fits.target).columns = ap columns_or link_fits.target_is in
            let wide : length right ≡ length (link_fits.target).columns = ap length right_at ∙ (rows.0 ∙ ap length columns_are) in
            let has : HasColumns right it.target_columns =
            All-weaker (λ n. slice_get (link_fits.target).columns n ≢ None) (λ n. n < length right)
            (λ n there. subst (λ m. n < m) (sym wide) (column_within (link_fits.target).columns n there)) it.target_columns link_fits.columns in
            subst (HasColumns right) (sym to_is) has

      pub link_leads : (left : List Term) (from to : List ℕ) (last : Branch) (cases : List Branch) → left ≡ f.terms → from ≡ it.columns → to ≡ it.target_columns →
          Learns (map (same_at left right) (zip from to)) new last → cases ≡ last ∷ [] → LinkLeads p b link fact cases
      link_leads left from to last cases left_is from_is to_is learns cases_is =
          record {
            passes = record {
              f = f;
              fact_is = at_fact;
              it = it;
              link_of = record { table = table; table_is = at_table; link_is = at_link };
              not_null =
                  subst (λ (fact : Fact). All (IsNotNullAt b fact.terms) it.columns) same_link_fact
                  (subst (λ (l : Link). All (IsNotNullAt b passes.f.terms) l.columns) same_link passes.not_null);
            };
            lessons = learns.lessons;
            lessons_are =
                sym (ap₂ map (ap₂ same_at left_is right_at) (ap₂ zip from_is to_is)) ∙ learns.are;
            cases_are = cases_is ∙ ap (λ (one : Branch). one ∷ []) (learns.new_is ∙ ap (λ one. with_lessons one learns.lessons) target_is);
          }

-- ---- splits

kind_there : (b : Branch) (t : Term) (k : Kind) → kind_of_term b t ≡ Some k → IsThere b.known t
kind_there b (Unknown n) k e = at (slice_get b.known.unknowns n) refl e
  where
    at : (o : Option Sort) → slice_get b.known.unknowns n ≡ o → option_map (λ (sort : Sort). sort.kind) o ≡ Some k → n < length b.known.unknowns
    at None is e = cc
    at (Some sort) is e = slice_get_within b.known.unknowns n sort is
kind_there b (Val v) k e = tt
kind_there b (Param n) k e = tt
kind_there b (Var n) k e = tt

turned : (k : Known) (op : Op) (x y : Term) → IsThere k x → IsThere k y → IsThere k (negation_of op x y).left × IsThere k (negation_of op x y).right
turned k Eq x y a b = (a, b)
turned k Ne x y a b = (a, b)
turned k Lt x y a b = (b, a)
turned k Le x y a b = (b, a)
turned k IsNull x y a b = (a, b)
turned k NotNull x y a b = (a, b)

pub negation_there : (b copy : Branch) (atom it : TermAtom) → SplitPasses b atom → copy ≡ b → it ≡ negation atom → IsThere copy.known it.left × IsThere copy.known it.right
negation_there b copy atom it fits copied is =
    subst (λ (c : Branch). IsThere c.known it.left × IsThere c.known it.right) (sym copied)
    (subst (λ (a : TermAtom). IsThere b.known a.left × IsThere b.known a.right) (sym is)
    (turned b.known atom.op atom.left atom.right (kind_there b atom.left fits.kind fits.sides.left) (kind_there b atom.right fits.kind fits.sides.right)))

pub split_there : (b : Branch) (atom it : TermAtom) → SplitPasses b atom → it ≡ atom → IsThere b.known it.left × IsThere b.known it.right
split_there b atom it fits is =
    subst (λ (a : TermAtom). IsThere b.known a.left × IsThere b.known a.right) (sym is)
    (kind_there b atom.left fits.kind fits.sides.left, kind_there b atom.right fits.kind fits.sides.right)
