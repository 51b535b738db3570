-- The schema and the policy, as values and as texts.
use Rattle.std.specs.Prelude.{ℕ, false, List, [], ◌∷◌, ◌++◌, codes}
use Rattle.ba_model.specs.declared.policy.Parameter.{Parameter}
use Rattle.ba_model.specs.declared.schema.Column.{Column}
use Rattle.ba_model.specs.declared.schema.Kind.{Kind}
use Rattle.ba_model.specs.declared.schema.Kind.TheVariants as kind
use Rattle.ba_model.specs.declared.schema.Link.{Link}
use Rattle.ba_model.specs.declared.schema.Table.{Table}
use Rattle.ba_model.specs.declared.schema.Schema.{Schema}

unfoldable pub schema_text : List ℕ
schema_text =
    codes "CREATE TABLE Users (UId INT PRIMARY KEY, Name TEXT NOT NULL);\n"
    ++ (codes "CREATE TABLE Events (EId INT PRIMARY KEY, Title TEXT NOT NULL, Duration INT NOT NULL);\n"
    ++ (codes "CREATE TABLE Attendances (UId INT NOT NULL REFERENCES Users (UId),\n"
    ++ codes "  EId INT NOT NULL REFERENCES Events (EId), At INT NOT NULL, PRIMARY KEY (UId, EId));\n"))

-- users may see all names, their own attendances, and the events that they attend
unfoldable pub policy_text : List ℕ
policy_text =
    codes "PARAM MyUId INT;\n"
    ++ (codes "CREATE VIEW V1 AS SELECT UId, Name FROM Users;\n"
    ++ (codes "CREATE VIEW V2 AS SELECT UId, EId, At FROM Attendances WHERE UId = ?MyUId;\n"
    ++ (codes "CREATE VIEW V3 AS SELECT e.EId, e.Title, e.Duration FROM Events e\n"
    ++ codes "  JOIN Attendances a ON a.EId = e.EId WHERE a.UId = ?MyUId;\n")))

-- ---- the schema

-- a column that is never NULL
abbrev pub column : List ℕ → Kind → Column
column name k = record { name = name; kind = k; nullable = false }

-- a link of one column to one
abbrev pub link : ℕ → ℕ → ℕ → Link
link own target other = record { columns = own ∷ []; target = target; target_columns = other ∷ [] }

abbrev pub users_table : Table
users_table =
    record {
      name = codes "Users";
      columns = column (codes "UId") kind.Int ∷ column (codes "Name") kind.Text ∷ [];
      keys = (0 ∷ []) ∷ [];
      links = [];
    }

abbrev pub events_table : Table
events_table =
    record {
      name = codes "Events";
      columns = column (codes "EId") kind.Int ∷ column (codes "Title") kind.Text ∷ column (codes "Duration") kind.Int ∷ [];
      keys = (0 ∷ []) ∷ [];
      links = [];
    }

abbrev pub attendances_table : Table
attendances_table =
    record {
      name = codes "Attendances";
      columns = column (codes "UId") kind.Int ∷ column (codes "EId") kind.Int ∷ column (codes "At") kind.Int ∷ [];
      keys = (0 ∷ 1 ∷ []) ∷ [];
      links = link 0 0 0 ∷ link 1 1 0 ∷ [];
    }

abbrev pub schema : Schema
schema = record { tables = users_table ∷ events_table ∷ attendances_table ∷ []; rules = [] }

-- ---- the policy's parameter

abbrev pub my_user : Parameter
my_user = record { name = codes "MyUId"; kind = kind.Int }

abbrev pub params : List Parameter
params = my_user ∷ []
