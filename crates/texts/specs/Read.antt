-- Reading a text block (request [13]: "reading gives 1, then 22 NotTextBlock, then 4 if the block length is below 24 or passes the image"). Where a text
-- may run and which bytes it has are the definitions that conversions use. Assumes nothing: these are definitions.
use Rattle.std.specs.Prelude.{ℕ, Option, Some, None, Result, Ok, Err, cond, List}
use Rattle.common.specs.Header.{inside, text_id, has_id}
use Rattle.common.specs.Text.{run_at, cut_off}
use Rattle.common.specs.declared.refusal.Refusal.{Refusal}
use Rattle.common.specs.declared.refusal.Refusal.TheVariants.{Outside, Short, NotTextBlock}
use Rattle.common.specs.declared.text.Span.{Span}
use Rattle.texts.specs.declared.read.TextId.{TextId}
use Rattle.texts.specs.declared.read.TextId.TheVariants.{Tx, Md}
use Rattle.texts.specs.declared.read.TextRead.{TextRead}

-- the ids, as the four bytes "##TX" and "##MD" read
abbrev pub id_word : TextId → ℕ
id_word Tx = text_id
id_word Md = 0x444d2323

-- the text's part; or 4
abbrev pub found_at : TextId → ℕ → Option Span → Result TextRead Refusal
found_at id a (Some s) = Ok (record { id = id; text = s })
found_at id a None = Err (Short a)

-- the block at a, which has this id: its text goes from byte 24 to the first zero byte or to the block length
unfoldable pub read_as : TextId → List ℕ → ℕ → Result TextRead Refusal
read_as id img a = found_at id a (cut_off img (run_at (id_word id) img a))

-- the block at a, whose header lies in the image: 22 where it has neither id
unfoldable pub read_at : List ℕ → ℕ → Result TextRead Refusal
read_at img a = cond (has_id (id_word Tx) img a) (read_as Tx img a) (cond (has_id (id_word Md) img a) (read_as Md img a) (Err (NotTextBlock a)))

-- 1 where there is no header; address 0 is an address like any other
unfoldable pub reading : List ℕ → ℕ → Result TextRead Refusal
reading img a = cond (inside img a) (read_at img a) (Err (Outside a))

-- "Conversions still take ##TX only"
abbrev pub tx_text : TextId → Span → Option Span
tx_text Tx s = Some s
tx_text Md s = None

-- the text that a conversion's link gives of what is read at its address (`as_linked`)
abbrev pub link_text : Result TextRead Refusal → Option Span
link_text (Ok t) = tx_text t.id t.text
link_text (Err r) = None
