-- The limits of the program. The most is allowed, and one more is refused.
use Rattle.std.specs.Prelude.{ℕ}
use Rattle.ba_model.specs.declared.limits.Counted.{Counted}
use Rattle.ba_model.specs.declared.limits.Counted.TheVariants.{TextBytes, FileBytes, Tables, Columns, Keys, Links, Rules, Views, Params, CacheKeys, KeyQueries, Rows, Lines, Requests, Asks, Steps, Templates}

-- ---- schemas

abbrev pub most_tables : ℕ
most_tables = 64

-- of a table
abbrev pub most_columns : ℕ
most_columns = 32

abbrev pub most_keys : ℕ
most_keys = 16

abbrev pub most_links : ℕ
most_links = 16

abbrev pub most_rows : ℕ
most_rows = 100000

-- inclusion rules
abbrev pub most_rules : ℕ
most_rules = 64

-- ---- queries

abbrev pub most_parts : ℕ
most_parts = 32

-- of a part
abbrev pub most_part_tables : ℕ
most_part_tables = 8

abbrev pub most_atoms : ℕ
most_atoms = 64

-- operands of a part's head
abbrev pub most_head : ℕ
most_head = 256

-- ---- policies

abbrev pub most_views : ℕ
most_views = 128

abbrev pub most_params : ℕ
most_params = 16

abbrev pub most_cache_keys : ℕ
most_cache_keys = 128

-- queries behind a cache key
abbrev pub most_key_queries : ℕ
most_key_queries = 8

-- ---- texts and files, in bytes

abbrev pub most_query_bytes : ℕ
most_query_bytes = 65536

-- a schema's or a policy's text
abbrev pub most_text_bytes : ℕ
most_text_bytes = 1048576

-- any file
abbrev pub most_file_bytes : ℕ
most_file_bytes = 67108864

-- a request's name
abbrev pub most_name_bytes : ℕ
most_name_bytes = 64

-- ---- scripts and runs

abbrev pub most_lines : ℕ
most_lines = 65536

abbrev pub most_requests : ℕ
most_requests = 8192

-- questions of a request
abbrev pub most_asks : ℕ
most_asks = 256

abbrev pub least_workers : ℕ
least_workers = 1

abbrev pub most_workers : ℕ
most_workers = 16

-- where the words don't say
abbrev pub usual_workers : ℕ
usual_workers = 1

-- of a generated script
abbrev pub most_seed : ℕ
most_seed = 9223372036854775807

-- ---- decisions, in steps

abbrev pub least_budget : ℕ
least_budget = 16

abbrev pub most_budget : ℕ
most_budget = 100000

-- where the words don't say
abbrev pub usual_budget : ℕ
usual_budget = 2000

-- of a proof
abbrev pub most_steps : ℕ
most_steps = 100000

-- ---- templates

-- entries of a template
abbrev pub most_entries : ℕ
most_entries = 8

-- its variables, and the parameters
abbrev pub most_operands : ℕ
most_operands = 64

-- shelves, each with the shapes of one remainder
abbrev pub shard_count : ℕ
shard_count = 8

-- shapes of a shelf
abbrev pub most_shapes : ℕ
most_shapes = 128

-- templates of a shape
abbrev pub most_alike : ℕ
most_alike = 8

-- templates of a file
abbrev pub most_templates : ℕ
most_templates = 8192

-- ---- what is counted in a file

abbrev pub limit_of : Counted → ℕ
limit_of TextBytes = most_text_bytes
limit_of FileBytes = most_file_bytes
limit_of Tables = most_tables
limit_of Columns = most_columns
limit_of Keys = most_keys
limit_of Links = most_links
limit_of Rules = most_rules
limit_of Views = most_views
limit_of Params = most_params
limit_of CacheKeys = most_cache_keys
limit_of KeyQueries = most_key_queries
limit_of Rows = most_rows
limit_of Lines = most_lines
limit_of Requests = most_requests
limit_of Asks = most_asks
limit_of Steps = most_steps
limit_of Templates = most_templates
