-- Inclusion rules, by the function and as a relation.
use Rattle.std.proofs.Common.{◌≡◌, ℕ, suc, ◌+◌, ◌<◌, ◌≤◌, Bool, true, false, nat_lt, List, [], ◌∷◌, ◌++◌, length, drop, get_or, map, slice_get, All, Option, Some, None, Result, Ok, Err, refl, sym, ap, subst, ◌∙◌, append_assoc, arith}
use Rattle.std.specs.Prelude.{IfOk}
use Rattle.std.specs.List.{AllByRecursion, AllZip}
use Rattle.std.proofs.lemmas.Bool.{false≢true, le-ltb, lt-ltb, ltb-false}
use Rattle.std.proofs.lemmas.List.{append-nil, drop_all, drop_more, length-append}
use Rattle.std.proofs.lemmas.List.Elements.{All-from_recursion, recursion_from_All}
use Rattle.ba_model.proofs.RuleLemmas.{fit_matches, rule_fits, some_first}
use Rattle.ba_model.specs.Fit.{AtomFits, IsQuery, PartFits, QueryFits, kind_of}
use Rattle.ba_model.specs.Limits.{most_rules}
use Rattle.ba_model.specs.Readings.{◌>>=◌, Fails, Gives, widened}
use Rattle.ba_model.specs.RuleFaults.{AreRules, RuleFits}
use Rattle.ba_model.specs.SchemaFaults.{AreTables}
use Rattle.ba_model.specs.declared.failure.Failure.{Failure}
use Rattle.ba_model.specs.declared.failure.Failure.TheVariants.{NoMemory, Fault}
use Rattle.ba_model.specs.declared.limits.Counted.TheVariants.{Rules}
use Rattle.ba_model.specs.declared.query.Atom.{Atom}
use Rattle.ba_model.specs.declared.query.Operand.{Operand}
use Rattle.ba_model.specs.declared.query.Operand.TheVariants.{Col, Val, Param, Var}
use Rattle.ba_model.specs.declared.query.Part.{Part}
use Rattle.ba_model.specs.declared.query.Query.{Query}
use Rattle.ba_model.specs.declared.schema.Kind.{Kind}
use Rattle.ba_model.specs.declared.schema.Rule.{Rule}
use Rattle.ba_model.specs.declared.schema.Schema.{Schema}
use Rattle.ba_lex.specs.declared.token.Lexeme.{Lexeme}
use Rattle.ba_sql_syntax.specs.Written.{written_of}
use Rattle.ba_sql_query.proofs.PartsLemmas.{parts_fit}
use Rattle.ba_sql_query.proofs.ReadLemmas.{bind_ok, err_ok, ok_same}
use Rattle.ba_sql_query.proofs.ResolvedLemmas.{names_good}
use Rattle.ba_sql_query.specs.Errors.{syntax_fault}
use Rattle.ba_sql_query.specs.Meaning.{fault_of, query_of_parts, query_of_selects, query_of_written, unless}
use Rattle.ba_sql_query.specs.Parts.{parts_of}
use Rattle.ba_sql_query.specs.Resolve.{names_of}
use Rattle.ba_sql_query.specs.Texts.{query_of_words}
use Rattle.ba_sql_query.specs.declared.fault.ReadQueryFault.{ReadQueryFault}
use Rattle.ba_sql_query.specs.declared.fault.ReadQueryFault.TheVariants.{HeadDiffers}
use Rattle.ba_sql_ddl.specs.Inclusions.{IsRuleOf, Refuses, and_rules, heads_match, matched, rule_of, rules_from, rules_of, with_rules}
use Rattle.ba_sql_ddl.specs.Written.{InclusionText, seen}
use Rattle.ba_sql_ddl.specs.declared.fault.DdlFault.{DdlFault}
use Rattle.ba_sql_ddl.specs.declared.fault.DdlFault.TheVariants.{TooMany, Rule as RuleFault}
use Rattle.ba_sql_ddl.specs.declared.statement.Inclusion.{Inclusion}

-- ---- what words are read as fits

without_fault : (o : Option ReadQueryFault) (p q : Query) → unless o p ≡ Ok q → (o ≡ None) × (p ≡ q)
without_fault None p q e = (refl, ok_same p q e)
without_fault (Some f) p q e = absurd (err_ok q e)

words_fit : (s : Schema) (words : List Lexeme) (q : Query) → query_of_words s [] words ≡ Ok q → IsQuery s [] [] q
unfolding query_of_words query_of_written
words_fit s words q e =
    let a = bind_ok (widened syntax_fault (written_of words)) (query_of_written s []) q e in
    let b = bind_ok (names_of s [] a.0) (query_of_selects s []) q a.2 in
    let u = without_fault (fault_of s [] b.0) (query_of_parts (parts_of b.0)) q b.2 in
    subst (IsQuery s [] []) u.1 (parts_fit s [] b.0 (parts_of b.0) (names_good s [] a.0 b.0 b.1) u.0 refl)

-- ---- a query fits whatever rules the schema has

module _ (s : Schema) (rules : List Rule) where
  kind_moved : (from : List ℕ) (o : Operand) → kind_of s [] [] from o ≡ kind_of (and_rules s rules) [] [] from o
  kind_moved from (Col p c) = refl
  kind_moved from (Val v) = refl
  kind_moved from (Param n) = refl
  kind_moved from (Var n) = refl

  atom_moved : (from : List ℕ) (a : Atom) → AtomFits s [] [] from a → AtomFits (and_rules s rules) [] [] from a
  atom_moved from a h = record { kind = h.kind; left_is = sym (kind_moved from a.left) ∙ h.left_is; right_is = sym (kind_moved from a.right) ∙ h.right_is; op = h.op }

  atoms_moved : (from : List ℕ) (atoms : List Atom) → AllByRecursion (AtomFits s [] [] from) atoms → AllByRecursion (AtomFits (and_rules s rules) [] [] from) atoms
  atoms_moved from [] h = tt
  atoms_moved from (a ∷ atoms) h = (atom_moved from a h.0, atoms_moved from atoms h.1)

  head_moved : (from : List ℕ) (os : List Operand) → map (kind_of s [] [] from) os ≡ map (kind_of (and_rules s rules) [] [] from) os
  head_moved from [] = refl
  head_moved from (o ∷ os) =
      ap (λ (k : Option Kind). k ∷ map (kind_of s [] [] from) os) (kind_moved from o) ∙ ap (λ (ks : List (Option Kind)). kind_of (and_rules s rules) [] [] from o ∷ ks) (head_moved from os)

  part_moved : (kinds : List Kind) (part : Part) → PartFits s [] [] kinds part → PartFits (and_rules s rules) [] [] kinds part
  part_moved kinds part h = record {
    some_table = h.some_table;
    tables = h.tables;
    conds = All-from_recursion (AtomFits (and_rules s rules) [] [] part.from) part.conds (atoms_moved part.from part.conds (recursion_from_All (AtomFits s [] [] part.from) part.conds h.conds));
    head = sym (head_moved part.from part.head) ∙ h.head;
  }

  parts_moved : (kinds : List Kind) (parts : List Part) → AllByRecursion (PartFits s [] [] kinds) parts → AllByRecursion (PartFits (and_rules s rules) [] [] kinds) parts
  parts_moved kinds [] h = tt
  parts_moved kinds (p ∷ parts) h = (part_moved kinds p h.0, parts_moved kinds parts h.1)

  fits_moved : (q : Query) → QueryFits s [] [] q → QueryFits (and_rules s rules) [] [] q
  fits_moved q h = record {
    kinds = h.kinds;
    some_kind = h.some_kind;
    some_part = h.some_part;
    parts = All-from_recursion (PartFits (and_rules s rules) [] [] h.kinds) q.parts (parts_moved h.kinds q.parts (recursion_from_All (PartFits s [] [] h.kinds) q.parts h.parts));
  }

  query_moved : (q : Query) → IsQuery s [] [] q → IsQuery (and_rules s rules) [] [] q
  query_moved q h = record { fits = fits_moved q h.fits; few_parts = h.few_parts; within = h.within }

  rule_moved : (rule : Rule) → RuleFits s rule → RuleFits (and_rules s rules) rule
  unfolding query_moved fits_moved
  rule_moved rule h = record { left = query_moved rule.left h.left; right = query_moved rule.right h.right; kinds = h.kinds }

  each_moved : (rs : List Rule) → AllByRecursion (RuleFits s) rs → AllByRecursion (RuleFits (and_rules s rules)) rs
  each_moved [] h = tt
  each_moved (r ∷ rs) h = (rule_moved r h.0, each_moved rs h.1)

  pub all_moved : (rs : List Rule) → All (RuleFits s) rs → All (RuleFits (and_rules s rules)) rs
  all_moved rs h = All-from_recursion (RuleFits (and_rules s rules)) rs (each_moved rs (recursion_from_All (RuleFits s) rs h))

-- ---- heads

heads_fit : (s : Schema) (left right : Query) → IsQuery s [] [] left → IsQuery s [] [] right → heads_match s left right ≡ true → RuleFits s (record { left = left; right = right })
unfolding heads_match
heads_fit s left right h k e = at (slice_get left.parts 0) refl (slice_get right.parts 0) refl
  where
    at : (o : Option Part) → slice_get left.parts 0 ≡ o → (p : Option Part) → slice_get right.parts 0 ≡ p → RuleFits s (record { left = left; right = right })
    at None a p b = absurd (some_first s left h a)
    at (Some part) a None b = absurd (some_first s right k b)
    at (Some part) a (Some other) b = rule_fits s left right part other h k a b (rw (a, b) at e)

fit_heads : (s : Schema) (rule : Rule) → RuleFits s rule → heads_match s rule.left rule.right ≡ true
unfolding heads_match
fit_heads s rule h = at (slice_get rule.left.parts 0) refl (slice_get rule.right.parts 0) refl
  where
    at : (o : Option Part) → slice_get rule.left.parts 0 ≡ o → (p : Option Part) → slice_get rule.right.parts 0 ≡ p → heads_match s rule.left rule.right ≡ true
    at None a p b = absurd (some_first s rule.left h.left a)
    at (Some part) a None b = absurd (some_first s rule.right h.right b)
    at (Some part) a (Some other) b = rw (a, b) (fit_matches s rule.left rule.right part other a b h)

-- ---- one rule

abbrev and_right : Schema → InclusionText → Query → Result Rule ReadQueryFault
and_right s text left = query_of_words s [] text.right >>= matched s left

matched_ok : (s : Schema) (left right : Query) (rule : Rule) → matched s left right ≡ Ok rule → (heads_match s left right ≡ true) × (record { left = left; right = right } ≡ rule)
matched_ok s left right rule e = at (heads_match s left right) refl
  where
    at : (t : Bool) → heads_match s left right ≡ t → (heads_match s left right ≡ true) × (record { left = left; right = right } ≡ rule)
    at true h = (h, ok_same (record { left = left; right = right }) rule (rw h at e))
    at false h = let wrong : ◌≡◌ {A = Result Rule ReadQueryFault} (Err HeadDiffers) (Ok rule) = rw h at e in cc

-- what a rule's words are read as
record Reads (s : Schema) (text : InclusionText) (rule : Rule) : Type 0 where
  is : IsRuleOf s text rule
  fits : RuleFits s rule

rule_sound : (s : Schema) (text : InclusionText) (rule : Rule) → rule_of s text ≡ Ok rule → Reads s text rule
unfolding rule_of
rule_sound s text rule e =
    let a = bind_ok (query_of_words s [] text.left) (and_right s text) rule e in
    let b = bind_ok (query_of_words s [] text.right) (matched s a.0) rule a.2 in
    let c = matched_ok s a.0 b.0 rule b.2 in
    subst (Reads s text) c.1 (record {
      is = record { left = a.1; right = b.1 };
      fits = heads_fit s a.0 b.0 (words_fit s text.left a.0 a.1) (words_fit s text.right b.0 b.1) c.0;
    })

rule_complete : (s : Schema) (text : InclusionText) (rule : Rule) → IsRuleOf s text rule → RuleFits s rule → rule_of s text ≡ Ok rule
unfolding rule_of
rule_complete s text rule h fits = rw h.left (rw h.right (rw (fit_heads s rule fits) refl))

refused : (s : Schema) (text : InclusionText) (fault : ReadQueryFault) → rule_of s text ≡ Err fault → Refuses s text fault
unfolding rule_of
refused s text fault e = of_left (query_of_words s [] text.left) refl
  where
    of_heads : (left right : Query) → query_of_words s [] text.left ≡ Ok left → query_of_words s [] text.right ≡ Ok right → (t : Bool) → heads_match s left right ≡ t → Refuses s text fault
    of_heads left right a b true h =
        let wrong : ◌≡◌ {A = Result Rule ReadQueryFault} (Ok (record { left = left; right = right })) (Err fault) = rw (a, b, h) at e in cc
    of_heads left right a b false h =
        let is : ◌≡◌ {A = Result Rule ReadQueryFault} (Err HeadDiffers) (Err fault) = rw (a, b, h) at e in
        subst (Refuses s text) (faults HeadDiffers fault is) (Refuses.heads (record { left = left; right = right }) (record { left = a; right = b }) (λ fits. false≢true (sym h ∙ fit_heads s (record { left = left; right = right }) fits)))
      where
        faults : (f g : ReadQueryFault) → ◌≡◌ {A = Result Rule ReadQueryFault} (Err f) (Err g) → f ≡ g
        faults f g e = cc

    of_right : (left : Query) → query_of_words s [] text.left ≡ Ok left → (r : Result Query ReadQueryFault) → query_of_words s [] text.right ≡ r → Refuses s text fault
    of_right left a (Ok right) b = of_heads left right a b (heads_match s left right) refl
    of_right left a (Err f) b =
        let is : ◌≡◌ {A = Result Rule ReadQueryFault} (Err f) (Err fault) = rw (a, b) at e in
        let same : f ≡ fault = cc in
        Refuses.right left a (b ∙ ap (λ (x : ReadQueryFault). Err x) same)

    of_left : (r : Result Query ReadQueryFault) → query_of_words s [] text.left ≡ r → Refuses s text fault
    of_left (Ok left) a = of_right left a (query_of_words s [] text.right) refl
    of_left (Err f) a =
        let is : ◌≡◌ {A = Result Rule ReadQueryFault} (Err f) (Err fault) = rw a at e in
        let same : f ≡ fault = cc in
        Refuses.left (a ∙ ap (λ (x : ReadQueryFault). Err x) same)

refuses : (s : Schema) (text : InclusionText) (fault : ReadQueryFault) → Refuses s text fault → rule_of s text ≡ Err fault
unfolding rule_of
refuses s text fault (Refuses.left e) = rw e refl
refuses s text fault (Refuses.right query a e) = rw a (rw e refl)
refuses s text _ (Refuses.heads rule is unfit) = at (heads_match s rule.left rule.right) refl
  where
    at : (t : Bool) → heads_match s rule.left rule.right ≡ t → rule_of s text ≡ Err HeadDiffers
    at true h = absurd (unfit (heads_fit s rule.left rule.right (words_fit s text.left rule.left is.left) (words_fit s text.right rule.right is.right) h))
    at false h = rw is.left (rw is.right (rw h refl))

-- ---- several

ddl_ok : {A B : Type 0} (r : Result A DdlFault) (f : A → Result B DdlFault) (y : B) → (r >>= f) ≡ Ok y → (x : A) × (r ≡ Ok x) × (f x ≡ Ok y)
ddl_ok (Ok x) f y e = (x, refl, e)
ddl_ok (Err g) f y e = cc

ddl_same : {A : Type 0} (x y : A) → ◌≡◌ {A = Result A DdlFault} (Ok x) (Ok y) → x ≡ y
ddl_same x y e = cc

number_ok : (number : ℕ) (r : Result Rule ReadQueryFault) (rule : Rule) → widened (RuleFault number) r ≡ Ok rule → r ≡ Ok rule
number_ok number (Ok x) rule e = ap (λ (y : Rule). Ok y) (ddl_same x rule e)
number_ok number (Err f) rule e = cc

abbrev pub put : Rule → List Rule → Result (List Rule) DdlFault
put r rs = Ok (r ∷ rs)

abbrev pub and_more : Schema → ℕ → List InclusionText → Rule → Result (List Rule) DdlFault
and_more s number ts r = rules_from s (number + 1) ts >>= put r

-- what the words of several rules are read as
pub record ReadsAll (s : Schema) (texts : List InclusionText) (rules : List Rule) : Type 0 where
  pub are : AllZip (IsRuleOf s) texts rules
  pub fit : AllByRecursion (RuleFits s) rules
  pub count : length rules ≡ length texts

pub rules_sound : (s : Schema) (number : ℕ) (texts : List InclusionText) (rules : List Rule) → rules_from s number texts ≡ Ok rules → ReadsAll s texts rules
rules_sound s number [] rules e = subst (ReadsAll s []) (ddl_same [] rules e) (record { are = tt; fit = tt; count = refl })
rules_sound s number (t ∷ ts) rules e =
    let a = ddl_ok (widened (RuleFault number) (rule_of s t)) (and_more s number ts) rules e in
    let b = ddl_ok (rules_from s (number + 1) ts) (put a.0) rules a.2 in
    let one = rule_sound s t a.0 (number_ok number (rule_of s t) a.0 a.1) in
    let others = rules_sound s (number + 1) ts b.0 b.1 in
    subst (ReadsAll s (t ∷ ts)) (ddl_same (a.0 ∷ b.0) rules b.2) (record { are = (one.is, others.are); fit = (one.fits, others.fit); count = ap (λ (n : ℕ). suc n) others.count })

pub rules_complete : (s : Schema) (number : ℕ) (texts : List InclusionText) (rules : List Rule) → AllZip (IsRuleOf s) texts rules → AllByRecursion (RuleFits s) rules → rules_from s number texts ≡ Ok rules
rules_complete s number [] [] z h = refl
rules_complete s number [] (r ∷ rs) z h = absurd z
rules_complete s number (t ∷ ts) [] z h = absurd z
rules_complete s number (t ∷ ts) (r ∷ rs) z h = rw (rule_complete s t r z.0 h.0) (rw (rules_complete s (number + 1) ts rs z.1 h.1) refl)

-- the first that is refused
pub record FirstRefused (s : Schema) (number : ℕ) (texts : List InclusionText) (fault : DdlFault) : Type 0 where
  pub before : List InclusionText
  pub text : InclusionText
  pub after : List InclusionText
  pub are : texts ≡ before ++ text ∷ after
  pub rules : List Rule
  pub read : AllZip (IsRuleOf s) before rules
  pub fit : AllByRecursion (RuleFits s) rules
  pub told : ReadQueryFault
  pub refused : Refuses s text told
  pub is : fault ≡ RuleFault (number + length before) told

pub fault_sound : (s : Schema) (number : ℕ) (texts : List InclusionText) (fault : DdlFault) → rules_from s number texts ≡ Err fault → FirstRefused s number texts fault
fault_sound s number [] fault e = cc
fault_sound s number (t ∷ ts) fault e = at (rule_of s t) refl (fault_sound s (number + 1) ts)
  where
    later : (rule : Rule) → rule_of s t ≡ Ok rule → (r : Result (List Rule) DdlFault) → rules_from s (number + 1) ts ≡ r → ((f : DdlFault) → rules_from s (number + 1) ts ≡ Err f → FirstRefused s (number + 1) ts f) → FirstRefused s number (t ∷ ts) fault
    later rule h (Ok rules) k below = let wrong : ◌≡◌ {A = Result (List Rule) DdlFault} (Ok (rule ∷ rules)) (Err fault) = rw (h, k) at e in cc
    later rule h (Err f) k below =
        let same : ◌≡◌ {A = Result (List Rule) DdlFault} (Err f) (Err fault) = rw (h, k) at e in
        let is : f ≡ fault = cc in
        let r = below f k in
        let one = rule_sound s t rule h in
        let number_is : (number + 1) + length r.before ≡ number + length (t ∷ r.before) = omega arith in
        record {
          before = t ∷ r.before;
          text = r.text;
          after = r.after;
          are = ap (λ (xs : List InclusionText). t ∷ xs) r.are;
          rules = rule ∷ r.rules;
          read = (one.is, r.read);
          fit = (one.fits, r.fit);
          told = r.told;
          refused = r.refused;
          is = sym is ∙ r.is ∙ ap (λ (n : ℕ). RuleFault n r.told) number_is;
        }

    at : (r : Result Rule ReadQueryFault) → rule_of s t ≡ r → ((f : DdlFault) → rules_from s (number + 1) ts ≡ Err f → FirstRefused s (number + 1) ts f) → FirstRefused s number (t ∷ ts) fault
    at (Ok rule) h below = later rule h (rules_from s (number + 1) ts) refl below
    at (Err f) h below =
        let same : ◌≡◌ {A = Result (List Rule) DdlFault} (Err (RuleFault number f)) (Err fault) = rw h at e in
        let is : RuleFault number f ≡ fault = cc in
        let number_is : number ≡ number + length {A = InclusionText} [] = omega arith in
        record { before = []; text = t; after = ts; are = refl; rules = []; read = tt; fit = tt; told = f; refused = refused s t f h; is = sym is ∙ ap (λ (n : ℕ). RuleFault n f) number_is }

pub fault_complete : (s : Schema) (number : ℕ) (before : List InclusionText) (text : InclusionText) (after : List InclusionText) (rules : List Rule) (fault : ReadQueryFault)
    → AllZip (IsRuleOf s) before rules → AllByRecursion (RuleFits s) rules → Refuses s text fault → rules_from s number (before ++ text ∷ after) ≡ Err (RuleFault (number + length before) fault)
fault_complete s number [] text after [] fault z h r =
    let number_is : number ≡ number + length {A = InclusionText} [] = omega arith in
    rw (refuses s text fault r) (ap (λ (n : ℕ). Err (RuleFault n fault)) number_is)
fault_complete s number [] text after (x ∷ xs) fault z h r = absurd z
fault_complete s number (t ∷ ts) text after [] fault z h r = absurd z
fault_complete s number (t ∷ ts) text after (x ∷ xs) fault z h r =
    let number_is : (number + 1) + length ts ≡ number + length (t ∷ ts) = omega arith in
    rw (rule_complete s t x z.0 h.0) (rw (fault_complete s (number + 1) ts text after xs fault z.1 h.1 r) (ap (λ (n : ℕ). Err (RuleFault n fault)) number_is))

-- ---- the count

pub few_rules : (s : Schema) (texts : List InclusionText) → length texts ≤ most_rules → rules_of s texts ≡ rules_from s 0 texts
unfolding rules_of
few_rules s texts le = rw (not_less most_rules (length texts) le) refl
  where
    not_less : (most n : ℕ) → n ≤ most → nat_lt most n ≡ false
    not_less most n le = le-ltb most n le

pub many_rules : (s : Schema) (texts : List InclusionText) → most_rules < length texts → rules_of s texts ≡ Err (TooMany Rules most_rules)
unfolding rules_of
many_rules s texts lt = rw (is_less most_rules (length texts) lt) refl
  where
    is_less : (most n : ℕ) → most < n → nat_lt most n ≡ true
    is_less most n lt = lt-ltb most n lt

-- ---- the schema with its rules

pub record IsWithRules (s : Schema) (texts : List InclusionText) (t : Schema) : Type 0 where
  pub rules : List Rule
  pub few : length texts ≤ most_rules
  pub read : ReadsAll s texts rules
  pub is : t ≡ and_rules s rules

pub with_sound : (s : Schema) (texts : List InclusionText) (t : Schema) → with_rules s texts ≡ Ok t → IsWithRules s texts t
unfolding with_rules rules_of
with_sound s texts t e = at (nat_lt most_rules (length texts)) refl
  where
    of : length texts ≤ most_rules → (r : Result (List Rule) DdlFault) → rules_from s 0 texts ≡ r → (r >>= λ rules. Ok (and_rules s rules)) ≡ Ok t → IsWithRules s texts t
    of le (Ok rules) h k = record { rules = rules; few = le; read = rules_sound s 0 texts rules h; is = sym (ddl_same (and_rules s rules) t k) }
    of le (Err f) h k = cc

    at : (b : Bool) → nat_lt most_rules (length texts) ≡ b → IsWithRules s texts t
    at true h = let wrong : ◌≡◌ {A = Result Schema DdlFault} (Err (TooMany Rules most_rules)) (Ok t) = rw h at e in cc
    at false h = of (ltb-false most_rules (length texts) h) (rules_from s 0 texts) refl (rw h at e)

pub with_complete : (s : Schema) (texts : List InclusionText) (rules : List Rule) → length texts ≤ most_rules → AllZip (IsRuleOf s) texts rules → AllByRecursion (RuleFits s) rules → with_rules s texts ≡ Ok (and_rules s rules)
unfolding with_rules
with_complete s texts rules few z h = rw (few_rules s texts few) (rw (rules_complete s 0 texts rules z h) refl)

zip_count : {A B : Type 0} (R : A → B → Type 0) (xs : List A) (ys : List B) → AllZip R xs ys → length ys ≡ length xs
zip_count R [] [] z = refl
zip_count R [] (y ∷ ys) z = absurd z
zip_count R (x ∷ xs) [] z = absurd z
zip_count R (x ∷ xs) (y ∷ ys) z = ap (λ (n : ℕ). suc n) (zip_count R xs ys z.1)

pub few_texts : (s : Schema) (texts : List InclusionText) (rules : List Rule) → AllZip (IsRuleOf s) texts rules → length rules ≤ most_rules → length texts ≤ most_rules
few_texts s texts rules z le = let count = zip_count (IsRuleOf s) texts rules z in omega (arith, count, le)

-- its rules are rules
pub are_rules : (s : Schema) (texts : List InclusionText) (rules : List Rule) → length texts ≤ most_rules → ReadsAll s texts rules → AreRules (and_rules s rules)
are_rules s texts rules few read =
    let count = read.count in
    record { few = omega (arith, few, count); fit = all_moved s rules rules (All-from_recursion (RuleFits s) rules read.fit) }

pub with_tables : (s : Schema) (texts : List InclusionText) (r : Result Schema (Failure DdlFault)) → AreTables s.tables → Gives r (with_rules s texts) → IfOk r (λ t. AreTables t.tables)
with_tables s texts (Ok t) h e = let w = with_sound s texts t e in subst (λ (u : Schema). AreTables u.tables) (sym w.is) h
with_tables s texts (Err f) h e = tt

pub with_fitting : (s : Schema) (texts : List InclusionText) (r : Result Schema (Failure DdlFault)) → Gives r (with_rules s texts) → IfOk r AreRules
with_fitting s texts (Ok t) e = let w = with_sound s texts t e in subst AreRules (sym w.is) (are_rules s texts w.rules w.few w.read)
with_fitting s texts (Err f) e = tt

-- ---- the loop

abbrev pub onto : List Rule → Result (List Rule) DdlFault → Result (List Rule) DdlFault
onto found read = read >>= λ rules. Ok (found ++ rules)

onto_none : (read : Result (List Rule) DdlFault) → onto [] read ≡ read
onto_none (Ok rules) = refl
onto_none (Err f) = refl

onto_more : (found : List Rule) (r : Rule) (read : Result (List Rule) DdlFault) → onto found (read >>= put r) ≡ onto (found ++ r ∷ []) read
onto_more found r (Ok rules) = ap (λ (rs : List Rule). Ok rs) (simp append_assoc)
onto_more found r (Err f) = refl

-- where the loop is: a rule for each text so far, and what the texts that are left give
pub record RulesAt (s : Schema) (found : List Rule) (texts : List Inclusion) (i : ℕ) : Type 0 where
  pub so_far : onto found (rules_from s (length found) (map seen (drop i texts))) ≡ rules_from s 0 (map seen texts)
  pub count : length found ≡ i

pub rules_start : (s : Schema) (found : List Rule) (texts : List Inclusion) → found ≡ [] → RulesAt s found texts 0
rules_start s found texts e = rw e (record { so_far = onto_none (rules_from s 0 (map seen texts)); count = refl })

rules_split : (s : Schema) (number : ℕ) (texts : List Inclusion) (i : ℕ) (t : Inclusion) → i < length texts → t ≡ get_or texts i t
    → rules_from s number (map seen (drop i texts)) ≡ (widened (RuleFault number) (rule_of s (seen t)) >>= and_more s number (map seen (drop (i + 1) texts)))
rules_split s number texts i t lt is =
    ap (λ (xs : List Inclusion). rules_from s number (map seen xs)) (drop_more texts i t lt ∙ ap (λ (y : Inclusion). y ∷ drop (i + 1) texts) (sym is))

pub rules_go_on : (s : Schema) (found found2 : List Rule) (texts : List Inclusion) (i number : ℕ) (t : Inclusion) (rule : Rule) → RulesAt s found texts i → i < length texts → t ≡ get_or texts i t → number ≡ length found
    → widened (RuleFault number) (rule_of s (seen t)) ≡ Ok rule → found2 ≡ found ++ rule ∷ [] → RulesAt s found2 texts (i + 1)
rules_go_on s found found2 texts i number t rule at lt is n e more =
    let size : length found2 ≡ length found + 1 = ap length more ∙ length-append found (rule ∷ []) in
    let step = rules_split s (length found) texts i t lt is in
    let read : widened (RuleFault (length found)) (rule_of s (seen t)) ≡ Ok rule = ap (λ (k : ℕ). widened (RuleFault k) (rule_of s (seen t))) (sym n) ∙ e in
    let rest : List InclusionText = map seen (drop (i + 1) texts) in
    let count = at.count in
    record {
      so_far =
          ap (λ (rs : List Rule). onto rs (rules_from s (length found2) rest)) more
          ∙ ap (λ (k : ℕ). onto (found ++ rule ∷ []) (rules_from s k rest)) size
          ∙ sym (onto_more found rule (rules_from s (length found + 1) rest))
          ∙ ap (λ (r : Result Rule DdlFault). onto found (r >>= and_more s (length found) rest)) (sym read)
          ∙ ap (onto found) (sym step)
          ∙ at.so_far;
      count = omega (arith, size, count);
    }

pub rules_fail : (s : Schema) (found : List Rule) (texts : List Inclusion) (i number : ℕ) (t : Inclusion) (err : Failure DdlFault) → RulesAt s found texts i → i < length texts → t ≡ get_or texts i t → number ≡ length found
    → Fails err (widened (RuleFault number) (rule_of s (seen t))) → Fails err (rules_from s 0 (map seen texts))
rules_fail s found texts i number t NoMemory at lt is n h = tt
rules_fail s found texts i number t (Fault f) at lt is n h =
    let rest : List InclusionText = map seen (drop (i + 1) texts) in
    let read : widened (RuleFault (length found)) (rule_of s (seen t)) ≡ Err f = ap (λ (k : ℕ). widened (RuleFault k) (rule_of s (seen t))) (sym n) ∙ h in
    sym at.so_far ∙ ap (onto found) (rules_split s (length found) texts i t lt is) ∙ ap (λ (r : Result Rule DdlFault). onto found (r >>= and_more s (length found) rest)) read

pub rules_end : (s : Schema) (found : List Rule) (texts : List Inclusion) (i : ℕ) → RulesAt s found texts i → length texts ≤ i → rules_from s 0 (map seen texts) ≡ Ok found
rules_end s found texts i at le =
    sym at.so_far ∙ ap (λ (xs : List Inclusion). onto found (rules_from s (length found) (map seen xs))) (drop_all i texts le) ∙ ap (λ (rs : List Rule). Ok rs) (append-nil found)
