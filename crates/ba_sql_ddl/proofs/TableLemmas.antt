-- Columns, rules of tables and tables: what is read is spelled so, and what is spelled so is read.
use Rattle.std.proofs.Common.{inl, inr, lit<, ◌<◌, get_or, ◌≡◌, ◌≢◌, ℕ, zero, suc, ◌≤◌, Bool, true, false, List, [], ◌∷◌, ◌++◌, length, map, codes, All, Option, Some, None, Ok, refl, sym, ap, subst, arith}
use Rattle.std.specs.List.{AllByRecursion, flat_map, list_any}
use Rattle.std.proofs.lemmas.Bool.{or_parts}
use Rattle.std.proofs.lemmas.List.{length-append}
use Rattle.std.proofs.lemmas.List.Elements.{All-from_recursion, recursion_from_All}
use Rattle.ba_model.specs.Readings.{◌>>=◌}
use Rattle.ba_grammar.specs.Front.{Read, begins, is_keyword, is_sign, listed, more, past}
use Rattle.ba_grammar.specs.Items.{Item, Spells, after_commas, is_among, with_commas}
use Rattle.ba_lex.specs.Word.{is_word}
use Rattle.ba_grammar.specs.Items.Item.{keyword, name, sign}
use Rattle.ba_grammar.proofs.ListedLemmas.{HasWord, IsComplete, IsSound, listed_sound}
use Rattle.ba_grammar.proofs.WordLemmas.{Takes, bind_ok, name_read, ok_same, parts, past_keyword, past_sign, spelled_keyword, spelled_sign, takes_keyword, takes_name, takes_sign, takes_size, then}
use Rattle.ba_lex.specs.declared.token.Lexeme.{Lexeme}
use Rattle.ba_lex.specs.declared.token.Lexeme.TheVariants.{Word}
use Rattle.ba_lex.specs.declared.token.Sign.TheVariants.{Comma, LeftParen, RightParen, Semicolon}
use Rattle.ba_sql_ddl.specs.Reader.{column_at, constraint_at, ddl_name_at, foreign_at, is_constraint_word, is_rule_word, item_at, label_at, names_at, primary_at, rule_at, rules_at, table_at, table_rule_at, type_at, unique_at}
use Rattle.ba_sql_ddl.specs.Written.{IsColumnRule, IsItem, IsTable, IsTableRule, column_items, constraint_items, item_items, label_items, names_items, reserved, rule_items, table_items, table_rule_items, type_items}
use Rattle.ba_sql_ddl.specs.declared.written.ColumnRule.{ColumnRule}
use Rattle.ba_sql_ddl.specs.declared.written.ColumnRule.TheVariants.{NotNull, Null, PrimaryKey, Unique, References}
use Rattle.ba_sql_ddl.specs.declared.written.ColumnText.{ColumnText}
use Rattle.ba_sql_ddl.specs.declared.written.Constraint.{Constraint}
use Rattle.ba_sql_ddl.specs.declared.written.TableItem.{TableItem}
use Rattle.ba_sql_ddl.specs.declared.written.TableItem.TheVariants.{Column, Constraint as ConstraintItem}
use Rattle.ba_sql_ddl.specs.declared.written.TableRule.{TableRule}
use Rattle.ba_sql_ddl.specs.declared.written.TableRule.TheVariants as table_rules
use Rattle.ba_sql_ddl.specs.declared.written.TableText.{TableText}
use Rattle.ba_sql_ddl.specs.declared.written.TypeText.{TypeText}
use Rattle.ba_sql_ddl.proofs.FormLemmas.{begins_other, begins_this, last_word, names_complete, names_sound, other_keyword, rule_complete, rule_sound, type_complete, type_sound}

-- ---- what stands behind an item: a comma or a bracket

pub record Ends (words : List Lexeme) : Type 0 where
  pub no_rule : begins is_rule_word words ≡ false
  pub no_bracket : begins (is_sign LeftParen) words ≡ false

pub ends_at_comma : (x : Lexeme) (words xs : List Lexeme) → words ≡ x ∷ xs → Spells (sign Comma) x → Ends words
ends_at_comma x words xs e h = record { no_rule = rw (e, h) refl; no_bracket = rw (e, h) refl }

pub ends_at_bracket : (x : Lexeme) (words xs : List Lexeme) → words ≡ x ∷ xs → Spells (sign RightParen) x → Ends words
ends_at_bracket x words xs e h = record { no_rule = rw (e, h) refl; no_bracket = rw (e, h) refl }

-- ---- rules of a column

pub record IsRulesRead (words : List Lexeme) (p : List ColumnRule × List Lexeme) : Type 0 where
  pub takes : Takes (flat_map rule_items p.0) words p.1
  pub each : AllByRecursion IsColumnRule p.0

abbrev put : ColumnRule → List ColumnRule × List Lexeme → Read (List ColumnRule)
put x y = Ok (x ∷ y.0, y.1)

abbrev and_rules : ℕ → ColumnRule × List Lexeme → Read (List ColumnRule)
and_rules fuel x = rules_at fuel x.1 >>= put x.0

no_rules : (words : List Lexeme) (p : List ColumnRule × List Lexeme) → ◌≡◌ {A = Read (List ColumnRule)} (Ok ([], words)) (Ok p) → IsRulesRead words p
no_rules words p e = subst (IsRulesRead words) (ok_same ([], words) p e) (record { takes = refl; each = tt })

pub rules_sound : (fuel : ℕ) (words : List Lexeme) (p : List ColumnRule × List Lexeme) → rules_at fuel words ≡ Ok p → IsRulesRead words p
unfolding rules_at
rules_sound zero words p e = no_rules words p e
rules_sound (suc fuel) words p e = at (begins is_rule_word words) refl (rules_sound fuel)
  where
    at : (t : Bool) → begins is_rule_word words ≡ t → ((ws : List Lexeme) (q : List ColumnRule × List Lexeme) → rules_at fuel ws ≡ Ok q → IsRulesRead ws q) → IsRulesRead words p
    at false h below = no_rules words p (rw h at e)
    at true h below =
        let a = bind_ok (rule_at words) (and_rules fuel) p (rw h at e) in
        let b = bind_ok (rules_at fuel a.0.1) (put a.0.0) p a.2 in
        let one = rule_sound words a.0 a.1 in
        let others = below a.0.1 b.0 b.1 in
        subst (IsRulesRead words) (ok_same (a.0.0 ∷ b.0.0, b.0.1) p b.2) (record { takes = then (rule_items a.0.0) (flat_map rule_items b.0.0) words a.0.1 b.0.1 one.0 others.takes; each = (one.1, others.each) })

-- a rule begins with its word
rule_begins : (r : ColumnRule) (words mid : List Lexeme) → Takes (rule_items r) words mid → begins is_rule_word words ≡ true
rule_begins NotNull words mid t = rw (t.2, spelled_keyword (codes "NOT") t.0 t.3) refl
rule_begins Null words mid t = rw (t.2, other_keyword (codes "NULL") (codes "NOT") t.0 t.3 refl, spelled_keyword (codes "NULL") t.0 t.3) refl
rule_begins PrimaryKey words mid t = rw (t.2, other_keyword (codes "PRIMARY") (codes "NOT") t.0 t.3 refl, other_keyword (codes "PRIMARY") (codes "NULL") t.0 t.3 refl, spelled_keyword (codes "PRIMARY") t.0 t.3) refl
rule_begins Unique words mid t =
    rw (t.2, other_keyword (codes "UNIQUE") (codes "NOT") t.0 t.3 refl, other_keyword (codes "UNIQUE") (codes "NULL") t.0 t.3 refl, other_keyword (codes "UNIQUE") (codes "PRIMARY") t.0 t.3 refl, spelled_keyword (codes "UNIQUE") t.0 t.3) refl
rule_begins (References table targets) words mid t =
    rw (
      t.2,
      other_keyword (codes "REFERENCES") (codes "NOT") t.0 t.3 refl,
      other_keyword (codes "REFERENCES") (codes "NULL") t.0 t.3 refl,
      other_keyword (codes "REFERENCES") (codes "PRIMARY") t.0 t.3 refl,
      other_keyword (codes "REFERENCES") (codes "UNIQUE") t.0 t.3 refl,
      spelled_keyword (codes "REFERENCES") t.0 t.3,
    ) refl

pub rules_complete : (rs : List ColumnRule) (fuel : ℕ) (words rest : List Lexeme) → length rs ≤ fuel → Takes (flat_map rule_items rs) words rest → AllByRecursion IsColumnRule rs → begins is_rule_word rest ≡ false → rules_at fuel words ≡ Ok (rs, rest)
unfolding rules_at
rules_complete [] zero words rest le t ps stop = ap (λ (r : List Lexeme). Ok ([], r)) t
rules_complete [] (suc fuel) words rest le t ps stop = rw t (rw stop refl)
rules_complete (r ∷ rs) zero words rest le t ps stop = absurd (omega (arith, le))
rules_complete (r ∷ rs) (suc fuel) words rest le t ps stop =
    let p = parts (rule_items r) (flat_map rule_items rs) words rest t in
    rw (rule_begins r words p.0 p.1) (rw (rule_complete words p.0 r p.1 ps.0) (rw (rules_complete rs fuel p.0 rest (omega (arith, le)) p.2 ps.1 stop) refl))

rule_size : (r : ColumnRule) → 1 ≤ length (rule_items r)
rule_size NotNull = omega arith
rule_size Null = omega arith
rule_size PrimaryKey = omega arith
rule_size Unique = omega arith
rule_size (References table targets) = omega arith

rules_size : (rs : List ColumnRule) → length rs ≤ length (flat_map rule_items rs)
rules_size [] = omega arith
rules_size (r ∷ rs) = let more = rules_size rs in let one = rule_size r in omega (arith, more, one, length-append (rule_items r) (flat_map rule_items rs))

-- ---- a column

pub record IsColumnRead (words : List Lexeme) (p : ColumnText × List Lexeme) : Type 0 where
  pub takes : Takes (column_items p.0) words p.1
  pub each : All IsColumnRule p.0.rules

abbrev column_end : List ℕ → TypeText → List ColumnRule × List Lexeme → Read ColumnText
column_end n t rs = Ok (record { name = n; type_text = t; rules = rs.0 }, rs.1)

abbrev column_rules : ℕ → List ℕ → TypeText × List Lexeme → Read ColumnText
column_rules fuel n t = rules_at fuel t.1 >>= column_end n t.0

abbrev column_type : ℕ → List ℕ × List Lexeme → Read ColumnText
column_type fuel n = type_at n.1 >>= column_rules fuel n.0

column_sound : (words : List Lexeme) (p : ColumnText × List Lexeme) → column_at words ≡ Ok p → IsColumnRead words p
unfolding column_at
column_sound words p e =
    let a = bind_ok (ddl_name_at words) (column_type (length words)) p e in
    let b = bind_ok (type_at a.0.1) (column_rules (length words) a.0.0) p a.2 in
    let c = bind_ok (rules_at (length words) b.0.1) (column_end a.0.0 b.0.0) p b.2 in
    let read = rules_sound (length words) b.0.1 c.0 c.1 in
    let t : ColumnText = record { name = a.0.0; type_text = b.0.0; rules = c.0.0 } in
    let made : Takes (column_items t) words c.0.1 =
    then (name reserved a.0.0 ∷ []) (type_items b.0.0 ++ flat_map rule_items c.0.0) words a.0.1 c.0.1 (takes_name reserved words a.0.1 a.0.0 a.1)
    (then (type_items b.0.0) (flat_map rule_items c.0.0) a.0.1 b.0.1 c.0.1 (type_sound a.0.1 b.0 b.1) read.takes) in
    subst (IsColumnRead words) (ok_same (t, c.0.1) p c.2) (record { takes = made; each = All-from_recursion IsColumnRule c.0.0 read.each })

-- a rule is no bracket
rules_no_bracket : (rs : List ColumnRule) (words rest : List Lexeme) → Takes (flat_map rule_items rs) words rest → Ends rest → begins (is_sign LeftParen) words ≡ false
rules_no_bracket [] words rest t ends = rw t ends.no_bracket
rules_no_bracket (r ∷ rs) words rest t ends =
    let p = parts (rule_items r) (flat_map rule_items rs) words rest t in
    no_bracket r words p.0 p.1
  where
    no_bracket : (r : ColumnRule) (words mid : List Lexeme) → Takes (rule_items r) words mid → begins (is_sign LeftParen) words ≡ false
    no_bracket NotNull words mid t = rw (t.2, t.3.1) refl
    no_bracket Null words mid t = rw (t.2, t.3.1) refl
    no_bracket PrimaryKey words mid t = rw (t.2, t.3.1) refl
    no_bracket Unique words mid t = rw (t.2, t.3.1) refl
    no_bracket (References table targets) words mid t = rw (t.2, t.3.1) refl

column_complete : (words rest : List Lexeme) (c : ColumnText) → Takes (column_items c) words rest → All IsColumnRule c.rules → Ends rest → column_at words ≡ Ok (c, rest)
unfolding column_at
column_complete words rest c t each ends =
    let p = parts (type_items c.type_text) (flat_map rule_items c.rules) t.1 rest t.4 in
    let whole = ap length t.2 in
    let front = takes_size (type_items c.type_text) t.1 p.0 p.1 in
    let behind = takes_size (flat_map rule_items c.rules) p.0 rest p.2 in
    let fuel : length c.rules ≤ length words = omega (arith, whole, front, behind, rules_size c.rules) in
    rw (name_read reserved words t.1 t.0 c.name t.2 t.3)
    (rw (type_complete t.1 p.0 c.type_text p.1 (rules_no_bracket c.rules p.0 rest p.2 ends))
    (rw (rules_complete c.rules (length words) p.0 rest fuel p.2 (recursion_from_All IsColumnRule c.rules each) ends.no_rule) refl))

-- ---- a rule of the table

pub record IsTableRuleRead (words : List Lexeme) (p : TableRule × List Lexeme) : Type 0 where
  pub takes : Takes (table_rule_items p.0) words p.1
  pub is : IsTableRule p.0

abbrev primary_end : List (List ℕ) × List Lexeme → Read TableRule
primary_end ns = Ok (table_rules.PrimaryKey ns.0, ns.1)

abbrev primary_names : List Lexeme → Read TableRule
primary_names rest = names_at rest >>= primary_end

abbrev primary_key : List Lexeme → Read TableRule
primary_key rest = past (is_keyword (codes "KEY")) rest >>= primary_names

primary_sound : (words : List Lexeme) (p : TableRule × List Lexeme) → primary_at words ≡ Ok p → IsTableRuleRead words p
unfolding primary_at
primary_sound words p e =
    let a = bind_ok (past (is_keyword (codes "PRIMARY")) words) primary_key p e in
    let b = bind_ok (past (is_keyword (codes "KEY")) a.0) primary_names p a.2 in
    let c = bind_ok (names_at b.0) primary_end p b.2 in
    let read = names_sound b.0 c.0 c.1 in
    let made : Takes (table_rule_items (table_rules.PrimaryKey c.0.0)) words c.0.1 =
    then (keyword (codes "PRIMARY") ∷ []) (keyword (codes "KEY") ∷ names_items c.0.0) words a.0 c.0.1 (takes_keyword (codes "PRIMARY") words a.0 a.1)
    (then (keyword (codes "KEY") ∷ []) (names_items c.0.0) a.0 b.0 c.0.1 (takes_keyword (codes "KEY") a.0 b.0 b.1) read.takes) in
    subst (IsTableRuleRead words) (ok_same (table_rules.PrimaryKey c.0.0, c.0.1) p c.2) (record { takes = made; is = read.some })

abbrev unique_end : List (List ℕ) × List Lexeme → Read TableRule
unique_end ns = Ok (table_rules.Unique ns.0, ns.1)

abbrev unique_names : List Lexeme → Read TableRule
unique_names rest = names_at rest >>= unique_end

unique_sound : (words : List Lexeme) (p : TableRule × List Lexeme) → unique_at words ≡ Ok p → IsTableRuleRead words p
unfolding unique_at
unique_sound words p e =
    let a = bind_ok (past (is_keyword (codes "UNIQUE")) words) unique_names p e in
    let c = bind_ok (names_at a.0) unique_end p a.2 in
    let read = names_sound a.0 c.0 c.1 in
    let made : Takes (table_rule_items (table_rules.Unique c.0.0)) words c.0.1 =
    then (keyword (codes "UNIQUE") ∷ []) (names_items c.0.0) words a.0 c.0.1 (takes_keyword (codes "UNIQUE") words a.0 a.1) read.takes in
    subst (IsTableRuleRead words) (ok_same (table_rules.Unique c.0.0, c.0.1) p c.2) (record { takes = made; is = read.some })

abbrev foreign_end : List (List ℕ) → List ℕ → List (List ℕ) × List Lexeme → Read TableRule
foreign_end ns table ts = Ok (table_rules.ForeignKey ns table ts.0, ts.1)

abbrev foreign_targets : List (List ℕ) → List ℕ × List Lexeme → Read TableRule
foreign_targets ns table = names_at table.1 >>= foreign_end ns table.0

abbrev foreign_table : List (List ℕ) → List Lexeme → Read TableRule
foreign_table ns rest = ddl_name_at rest >>= foreign_targets ns

abbrev foreign_references : List (List ℕ) × List Lexeme → Read TableRule
foreign_references ns = past (is_keyword (codes "REFERENCES")) ns.1 >>= foreign_table ns.0

abbrev foreign_names : List Lexeme → Read TableRule
foreign_names rest = names_at rest >>= foreign_references

abbrev foreign_key : List Lexeme → Read TableRule
foreign_key rest = past (is_keyword (codes "KEY")) rest >>= foreign_names

foreign_sound : (words : List Lexeme) (p : TableRule × List Lexeme) → foreign_at words ≡ Ok p → IsTableRuleRead words p
unfolding foreign_at
foreign_sound words p e =
    let a = bind_ok (past (is_keyword (codes "FOREIGN")) words) foreign_key p e in
    let b = bind_ok (past (is_keyword (codes "KEY")) a.0) foreign_names p a.2 in
    let c = bind_ok (names_at b.0) foreign_references p b.2 in
    let d = bind_ok (past (is_keyword (codes "REFERENCES")) c.0.1) (foreign_table c.0.0) p c.2 in
    let f = bind_ok (ddl_name_at d.0) (foreign_targets c.0.0) p d.2 in
    let g = bind_ok (names_at f.0.1) (foreign_end c.0.0 f.0.0) p f.2 in
    let columns = names_sound b.0 c.0 c.1 in
    let targets = names_sound f.0.1 g.0 g.1 in
    let behind : List Item = keyword (codes "REFERENCES") ∷ name reserved f.0.0 ∷ names_items g.0.0 in
    let made : Takes (table_rule_items (table_rules.ForeignKey c.0.0 f.0.0 g.0.0)) words g.0.1 =
    then (keyword (codes "FOREIGN") ∷ []) (keyword (codes "KEY") ∷ (names_items c.0.0 ++ behind)) words a.0 g.0.1 (takes_keyword (codes "FOREIGN") words a.0 a.1)
    (then (keyword (codes "KEY") ∷ []) (names_items c.0.0 ++ behind) a.0 b.0 g.0.1 (takes_keyword (codes "KEY") a.0 b.0 b.1)
    (then (names_items c.0.0) behind b.0 c.0.1 g.0.1 columns.takes
    (then (keyword (codes "REFERENCES") ∷ []) (name reserved f.0.0 ∷ names_items g.0.0) c.0.1 d.0 g.0.1 (takes_keyword (codes "REFERENCES") c.0.1 d.0 d.1)
    (then (name reserved f.0.0 ∷ []) (names_items g.0.0) d.0 f.0.1 g.0.1 (takes_name reserved d.0 f.0.1 f.0.0 f.1) targets.takes)))) in
    subst (IsTableRuleRead words) (ok_same (table_rules.ForeignKey c.0.0 f.0.0 g.0.0, g.0.1) p g.2) (record { takes = made; is = (columns.some, targets.some) })

table_rule_sound : (words : List Lexeme) (p : TableRule × List Lexeme) → table_rule_at words ≡ Ok p → IsTableRuleRead words p
unfolding table_rule_at
table_rule_sound words p e = at (begins (is_keyword (codes "PRIMARY")) words) (begins (is_keyword (codes "UNIQUE")) words) refl refl
  where
    at : (a b : Bool) → begins (is_keyword (codes "PRIMARY")) words ≡ a → begins (is_keyword (codes "UNIQUE")) words ≡ b → IsTableRuleRead words p
    at true b ha hb = primary_sound words p (rw ha at e)
    at false true ha hb = unique_sound words p (rw (ha, hb) at e)
    at false false ha hb = foreign_sound words p (rw (ha, hb) at e)

table_rule_complete : (words rest : List Lexeme) (r : TableRule) → Takes (table_rule_items r) words rest → IsTableRule r → table_rule_at words ≡ Ok (r, rest)
unfolding table_rule_at primary_at unique_at foreign_at
table_rule_complete words rest (table_rules.PrimaryKey ns) t some =
    let k = t.4 in
    rw (begins_this (codes "PRIMARY") t.0 words t.1 t.2 t.3) (rw (past_keyword (codes "PRIMARY") t.0 words t.1 t.2 t.3) (rw (past_keyword (codes "KEY") k.0 t.1 k.1 k.2 k.3) (rw (names_complete k.1 rest ns k.4 some) refl)))
table_rule_complete words rest (table_rules.Unique ns) t some =
    rw (begins_other (codes "UNIQUE") (codes "PRIMARY") t.0 words t.1 t.2 t.3 refl, begins_this (codes "UNIQUE") t.0 words t.1 t.2 t.3)
    (rw (past_keyword (codes "UNIQUE") t.0 words t.1 t.2 t.3) (rw (names_complete t.1 rest ns t.4 some) refl))
table_rule_complete words rest (table_rules.ForeignKey ns table ts) t some =
    let k = t.4 in
    let p = parts (names_items ns) (keyword (codes "REFERENCES") ∷ name reserved table ∷ names_items ts) k.1 rest k.4 in
    let r = p.2 in
    let n = r.4 in
    rw (begins_other (codes "FOREIGN") (codes "PRIMARY") t.0 words t.1 t.2 t.3 refl, begins_other (codes "FOREIGN") (codes "UNIQUE") t.0 words t.1 t.2 t.3 refl)
    (rw (past_keyword (codes "FOREIGN") t.0 words t.1 t.2 t.3)
    (rw (past_keyword (codes "KEY") k.0 t.1 k.1 k.2 k.3)
    (rw (names_complete k.1 p.0 ns p.1 some.0)
    (rw (past_keyword (codes "REFERENCES") r.0 p.0 r.1 r.2 r.3)
    (rw (name_read reserved r.1 n.1 n.0 table n.2 n.3)
    (rw (names_complete n.1 rest ts n.4 some.1) refl))))))

-- ---- CONSTRAINT and a name

abbrev IsLabelRead : List Lexeme → Option (List ℕ) × List Lexeme → Type 0
IsLabelRead words p = Takes (label_items p.0) words p.1

abbrev label_end : List ℕ × List Lexeme → Read (Option (List ℕ))
label_end n = Ok (Some n.0, n.1)

abbrev label_name : List Lexeme → Read (Option (List ℕ))
label_name rest = ddl_name_at rest >>= label_end

label_found : (words : List Lexeme) (p : Option (List ℕ) × List Lexeme) → (past (is_keyword (codes "CONSTRAINT")) words >>= label_name) ≡ Ok p → IsLabelRead words p
label_found words p e =
    let a = bind_ok (past (is_keyword (codes "CONSTRAINT")) words) label_name p e in
    let b = bind_ok (ddl_name_at a.0) label_end p a.2 in
    let made : Takes (label_items (Some b.0.0)) words b.0.1 =
    then (keyword (codes "CONSTRAINT") ∷ []) (name reserved b.0.0 ∷ []) words a.0 b.0.1 (takes_keyword (codes "CONSTRAINT") words a.0 a.1) (takes_name reserved a.0 b.0.1 b.0.0 b.1) in
    subst (IsLabelRead words) (ok_same (Some b.0.0, b.0.1) p b.2) made

label_sound : (words : List Lexeme) (p : Option (List ℕ) × List Lexeme) → label_at words ≡ Ok p → IsLabelRead words p
unfolding label_at
label_sound words p e = at (begins (is_keyword (codes "CONSTRAINT")) words) refl
  where
    at : (t : Bool) → begins (is_keyword (codes "CONSTRAINT")) words ≡ t → IsLabelRead words p
    at true h = label_found words p (rw h at e)
    at false h = subst (IsLabelRead words) (ok_same (None, words) p (rw h at e)) refl

label_complete : (words rest : List Lexeme) (label : Option (List ℕ)) → Takes (label_items label) words rest → begins (is_keyword (codes "CONSTRAINT")) rest ≡ false → label_at words ≡ Ok (label, rest)
unfolding label_at
label_complete words rest None t stop = rw t (rw stop refl)
label_complete words rest (Some n) t stop =
    let m = t.4 in
    rw (begins_this (codes "CONSTRAINT") t.0 words t.1 t.2 t.3) (rw (past_keyword (codes "CONSTRAINT") t.0 words t.1 t.2 t.3) (rw (name_read reserved t.1 rest m.0 n (last_word m.0 t.1 m.1 rest m.2 m.4) m.3) refl))

pub record IsConstraintRead (words : List Lexeme) (p : Constraint × List Lexeme) : Type 0 where
  pub takes : Takes (constraint_items p.0) words p.1
  pub is : IsTableRule p.0.rule

abbrev constraint_end : Option (List ℕ) → TableRule × List Lexeme → Read Constraint
constraint_end label r = Ok (record { label = label; rule = r.0 }, r.1)

abbrev constraint_rule : Option (List ℕ) × List Lexeme → Read Constraint
constraint_rule label = table_rule_at label.1 >>= constraint_end label.0

constraint_sound : (words : List Lexeme) (p : Constraint × List Lexeme) → constraint_at words ≡ Ok p → IsConstraintRead words p
unfolding constraint_at
constraint_sound words p e =
    let a = bind_ok (label_at words) constraint_rule p e in
    let b = bind_ok (table_rule_at a.0.1) (constraint_end a.0.0) p a.2 in
    let read = table_rule_sound a.0.1 b.0 b.1 in
    let c : Constraint = record { label = a.0.0; rule = b.0.0 } in
    let made : Takes (constraint_items c) words b.0.1 = then (label_items a.0.0) (table_rule_items b.0.0) words a.0.1 b.0.1 (label_sound words a.0 a.1) read.takes in
    subst (IsConstraintRead words) (ok_same (c, b.0.1) p b.2) (record { takes = made; is = read.is })

-- a rule of a table begins with its word
table_rule_begins : (r : TableRule) (words mid : List Lexeme) → Takes (table_rule_items r) words mid → (begins (is_keyword (codes "CONSTRAINT")) words ≡ false) × (begins is_constraint_word words ≡ true)
table_rule_begins (table_rules.PrimaryKey ns) words mid t = (
  begins_other (codes "PRIMARY") (codes "CONSTRAINT") t.0 words t.1 t.2 t.3 refl,
  rw (t.2, other_keyword (codes "PRIMARY") (codes "CONSTRAINT") t.0 t.3 refl, spelled_keyword (codes "PRIMARY") t.0 t.3) refl,
)
table_rule_begins (table_rules.Unique ns) words mid t = (
  begins_other (codes "UNIQUE") (codes "CONSTRAINT") t.0 words t.1 t.2 t.3 refl,
  rw (t.2, other_keyword (codes "UNIQUE") (codes "CONSTRAINT") t.0 t.3 refl, other_keyword (codes "UNIQUE") (codes "PRIMARY") t.0 t.3 refl, spelled_keyword (codes "UNIQUE") t.0 t.3) refl,
)
table_rule_begins (table_rules.ForeignKey ns table ts) words mid t = (
  begins_other (codes "FOREIGN") (codes "CONSTRAINT") t.0 words t.1 t.2 t.3 refl,
  rw (t.2, other_keyword (codes "FOREIGN") (codes "CONSTRAINT") t.0 t.3 refl, other_keyword (codes "FOREIGN") (codes "PRIMARY") t.0 t.3 refl, other_keyword (codes "FOREIGN") (codes "UNIQUE") t.0 t.3 refl, spelled_keyword (codes "FOREIGN") t.0 t.3) refl,
)

constraint_begins : (c : Constraint) (words mid : List Lexeme) → Takes (constraint_items c) words mid → begins is_constraint_word words ≡ true
constraint_begins c words mid t = at c.label refl (parts (label_items c.label) (table_rule_items c.rule) words mid t)
  where
    at : (o : Option (List ℕ)) → c.label ≡ o → (m : List Lexeme) × Takes (label_items c.label) words m × Takes (table_rule_items c.rule) m mid → begins is_constraint_word words ≡ true
    at None e p = let same : words ≡ p.0 = subst (λ (o : Option (List ℕ)). Takes (label_items o) words p.0) e p.1 in rw same (table_rule_begins c.rule p.0 mid p.2).1
    at (Some n) e p = let k : Takes (label_items (Some n)) words p.0 = subst (λ (o : Option (List ℕ)). Takes (label_items o) words p.0) e p.1 in rw (k.2, spelled_keyword (codes "CONSTRAINT") k.0 k.3) refl

constraint_complete : (words rest : List Lexeme) (c : Constraint) → Takes (constraint_items c) words rest → IsTableRule c.rule → constraint_at words ≡ Ok (c, rest)
unfolding constraint_at
constraint_complete words rest c t is =
    let p = parts (label_items c.label) (table_rule_items c.rule) words rest t in
    rw (label_complete words p.0 c.label p.1 (table_rule_begins c.rule p.0 rest p.2).0) (rw (table_rule_complete p.0 rest c.rule p.2 is) refl)

-- ---- an item

abbrev as_constraint : Constraint × List Lexeme → Read TableItem
as_constraint c = Ok (ConstraintItem c.0, c.1)

abbrev as_column : ColumnText × List Lexeme → Read TableItem
as_column c = Ok (Column c.0, c.1)

abbrev IsItemRead : List Lexeme → TableItem × List Lexeme → Type 0
IsItemRead words p = Takes (item_items p.0) words p.1 × IsItem p.0

pub item_sound : IsSound item_at item_items IsItem
unfolding item_at
item_sound words rest x e = at (begins is_constraint_word words) refl
  where
    at : (t : Bool) → begins is_constraint_word words ≡ t → IsItemRead words (x, rest)
    at true h =
        let a = bind_ok (constraint_at words) as_constraint (x, rest) (rw h at e) in
        let read = constraint_sound words a.0 a.1 in
        subst (IsItemRead words) (ok_same (ConstraintItem a.0.0, a.0.1) (x, rest) a.2) (read.takes, read.is)
    at false h =
        let a = bind_ok (column_at words) as_column (x, rest) (rw h at e) in
        let read = column_sound words a.0 a.1 in
        subst (IsItemRead words) (ok_same (Column a.0.0, a.0.1) (x, rest) a.2) (read.takes, read.each)

not_any : {A : Type 0} (p : A → Bool) (xs : List A) (i : ℕ) (d : A) → i < length xs → list_any p xs ≡ false → p (get_or xs i d) ≡ false
not_any p [] i d lt h = absurd (omega (arith, lt))
not_any p (x ∷ xs) zero d lt h = (or_parts (p x) (list_any p xs) h).0
not_any p (x ∷ xs) (suc i) d lt h = not_any p xs i d (omega (arith, lt)) (or_parts (p x) (list_any p xs) h).1

-- a name is no word that a rule of a table begins with
free_word : (n : List ℕ) → is_among reserved n ≡ false → is_constraint_word (Word n) ≡ false
unfolding is_among
free_word n free =
    let word : List ℕ → Bool = λ k. is_word n k in
    let c : is_word n (codes "CONSTRAINT") ≡ false = not_any word reserved 21 [] (lit< tt) free in
    let p : is_word n (codes "PRIMARY") ≡ false = not_any word reserved 17 [] (lit< tt) free in
    let u : is_word n (codes "UNIQUE") ≡ false = not_any word reserved 19 [] (lit< tt) free in
    let f : is_word n (codes "FOREIGN") ≡ false = not_any word reserved 22 [] (lit< tt) free in
    rw (c, p, u, f) refl

name_no_constraint : (n : List ℕ) (x : Lexeme) (words xs : List Lexeme) → words ≡ x ∷ xs → Spells (name reserved n) x → begins is_constraint_word words ≡ false
name_no_constraint n x words xs e (inl h) = rw (e, h.0) (free_word n h.1)
name_no_constraint n x words xs e (inr h) = rw (e, h) refl

-- what is spelled so, and is as IsItem says, is read, if the item ends there
pub item_complete : (words rest : List Lexeme) (x : TableItem) → Takes (item_items x) words rest → IsItem x → Ends rest → item_at words ≡ Ok (x, rest)
unfolding item_at
item_complete words rest (Column c) t each ends = rw (name_no_constraint c.name t.0 words t.1 t.2 t.3) (rw (column_complete words rest c t each ends) refl)
item_complete words rest (ConstraintItem c) t is ends = rw (constraint_begins c words rest t) (rw (constraint_complete words rest c t is) refl)

-- ---- items with commas

abbrev items_of : List TableItem → List Item
items_of xs = after_commas (map item_items xs)

-- behind an item stands the end, or a comma
ends_behind : (xs : List TableItem) (words rest : List Lexeme) → Takes (items_of xs) words rest → Ends rest → Ends words
ends_behind [] words rest t ends = subst Ends (sym t) ends
ends_behind (x ∷ xs) words rest t ends = ends_at_comma t.0 words t.1 t.2 t.3

more_items : (xs : List TableItem) (fuel : ℕ) (words rest : List Lexeme) → length xs ≤ fuel → Takes (items_of xs) words rest → AllByRecursion IsItem xs → begins (is_sign Comma) rest ≡ false → Ends rest → more (is_sign Comma) item_at fuel words ≡ Ok (xs, rest)
unfolding more
more_items [] zero words rest le t ps stop ends = ap (λ (r : List Lexeme). Ok ([], r)) t
more_items [] (suc fuel) words rest le t ps stop ends = rw t (rw stop refl)
more_items (x ∷ xs) zero words rest le t ps stop ends = absurd (omega (arith, le))
more_items (x ∷ xs) (suc fuel) words rest le t ps stop ends =
    let p = parts (item_items x) (items_of xs) t.1 rest t.4 in
    rw t.2 (rw (spelled_sign Comma t.0 t.3) (rw (item_complete t.1 p.0 x p.1 ps.0 (ends_behind xs p.0 rest p.2 ends)) (rw (more_items xs fuel p.0 rest (omega (arith, le)) p.2 ps.1 stop ends) refl)))

items_size : (xs : List TableItem) → length xs ≤ length (items_of xs)
items_size [] = omega arith
items_size (x ∷ xs) = let more = items_size xs in omega (arith, more, length-append (item_items x) (items_of xs))

items_complete : (words rest : List Lexeme) (xs : List TableItem) → xs ≢ [] → Takes (with_commas (map item_items xs)) words rest → AllByRecursion IsItem xs → begins (is_sign Comma) rest ≡ false → Ends rest → listed (is_sign Comma) item_at words ≡ Ok (xs, rest)
items_complete words rest [] some t ps stop ends = absurd (some refl)
items_complete words rest (x ∷ xs) some t ps stop ends =
    let p = parts (item_items x) (items_of xs) words rest t in
    let front = takes_size (item_items x) words p.0 p.1 in
    let behind = takes_size (items_of xs) p.0 rest p.2 in
    let fuel : length xs ≤ length words = omega (arith, front, behind, items_size xs) in
    rw (item_complete words p.0 x p.1 ps.0 (ends_behind xs p.0 rest p.2 ends)) (rw (more_items xs (length words) p.0 rest fuel p.2 ps.1 stop ends) refl)

-- ---- a table

abbrev table_end : List ℕ → List TableItem → List Lexeme → Read TableText
table_end n items rest = Ok (record { name = n; items = items }, rest)

abbrev table_semicolon : List ℕ → List TableItem → List Lexeme → Read TableText
table_semicolon n items rest = past (is_sign Semicolon) rest >>= table_end n items

abbrev table_right : List ℕ → List TableItem × List Lexeme → Read TableText
table_right n items = past (is_sign RightParen) items.1 >>= table_semicolon n items.0

abbrev table_items_at : List ℕ → List Lexeme → Read TableText
table_items_at n rest = listed (is_sign Comma) item_at rest >>= table_right n

abbrev table_left : List ℕ × List Lexeme → Read TableText
table_left n = past (is_sign LeftParen) n.1 >>= table_items_at n.0

abbrev table_name : List Lexeme → Read TableText
table_name rest = ddl_name_at rest >>= table_left

abbrev table_word : List Lexeme → Read TableText
table_word rest = past (is_keyword (codes "TABLE")) rest >>= table_name

pub table_sound : IsSound table_at table_items IsTable
unfolding table_at
table_sound words rest x e =
    let a = bind_ok (past (is_keyword (codes "CREATE")) words) table_word (x, rest) e in
    let b = bind_ok (past (is_keyword (codes "TABLE")) a.0) table_name (x, rest) a.2 in
    let c = bind_ok (ddl_name_at b.0) table_left (x, rest) b.2 in
    let d = bind_ok (past (is_sign LeftParen) c.0.1) (table_items_at c.0.0) (x, rest) c.2 in
    let f = bind_ok (listed (is_sign Comma) item_at d.0) (table_right c.0.0) (x, rest) d.2 in
    let g = bind_ok (past (is_sign RightParen) f.0.1) (table_semicolon c.0.0 f.0.0) (x, rest) f.2 in
    let h = bind_ok (past (is_sign Semicolon) g.0) (table_end c.0.0 f.0.0) (x, rest) g.2 in
    let items = listed_sound item_at item_items IsItem item_sound d.0 f.0.1 f.0.0 f.1 in
    let t : TableText = record { name = c.0.0; items = f.0.0 } in
    let closing : List Item = sign RightParen ∷ sign Semicolon ∷ [] in
    let inner : List Item = with_commas (map item_items f.0.0) ++ closing in
    let ends : Takes closing f.0.1 h.0 = then (sign RightParen ∷ []) (sign Semicolon ∷ []) f.0.1 g.0 h.0 (takes_sign RightParen f.0.1 g.0 g.1) (takes_sign Semicolon g.0 h.0 h.1) in
    let made : Takes (table_items t) words h.0 =
    then (keyword (codes "CREATE") ∷ []) (keyword (codes "TABLE") ∷ name reserved c.0.0 ∷ sign LeftParen ∷ inner) words a.0 h.0 (takes_keyword (codes "CREATE") words a.0 a.1)
    (then (keyword (codes "TABLE") ∷ []) (name reserved c.0.0 ∷ sign LeftParen ∷ inner) a.0 b.0 h.0 (takes_keyword (codes "TABLE") a.0 b.0 b.1)
    (then (name reserved c.0.0 ∷ []) (sign LeftParen ∷ inner) b.0 c.0.1 h.0 (takes_name reserved b.0 c.0.1 c.0.0 c.1)
    (then (sign LeftParen ∷ []) inner c.0.1 d.0 h.0 (takes_sign LeftParen c.0.1 d.0 d.1)
    (then (with_commas (map item_items f.0.0)) closing d.0 f.0.1 h.0 items.takes ends)))) in
    let is : IsTable t = record { some = items.some; each = All-from_recursion IsItem f.0.0 items.each } in
    subst (λ (p : TableText × List Lexeme). Takes (table_items p.0) words p.1 × IsTable p.0) (ok_same (t, h.0) (x, rest) h.2) (made, is)

bracket_no_comma : (x : Lexeme) (words xs : List Lexeme) → words ≡ x ∷ xs → Spells (sign RightParen) x → begins (is_sign Comma) words ≡ false
bracket_no_comma x words xs e h = rw (e, h) refl

pub table_complete : IsComplete table_at table_items IsTable
unfolding table_at
table_complete words rest x t is =
    let b = t.4 in
    let n = b.4 in
    let l = n.4 in
    let q = parts (with_commas (map item_items x.items)) (sign RightParen ∷ sign Semicolon ∷ []) l.1 rest l.4 in
    let r = q.2 in
    let s = r.4 in
    rw (past_keyword (codes "CREATE") t.0 words t.1 t.2 t.3)
    (rw (past_keyword (codes "TABLE") b.0 t.1 b.1 b.2 b.3)
    (rw (name_read reserved b.1 n.1 n.0 x.name n.2 n.3)
    (rw (past_sign LeftParen l.0 n.1 l.1 l.2 l.3)
    (rw (items_complete l.1 q.0 x.items is.some q.1 (recursion_from_All IsItem x.items is.each) (bracket_no_comma r.0 q.0 r.1 r.2 r.3) (ends_at_bracket r.0 q.0 r.1 r.2 r.3))
    (rw (past_sign RightParen r.0 q.0 r.1 r.2 r.3)
    (rw (past_sign Semicolon s.0 r.1 rest (last_word s.0 r.1 s.1 rest s.2 s.4) s.3) refl))))))

pub table_has_word : HasWord table_at table_items IsTable
table_has_word x = (keyword (codes "CREATE"), _, refl)
