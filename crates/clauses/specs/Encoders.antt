-- What the encoders of trees are given and promise: where the reader accepts, the gates of what it reads are written at the cursor.
use Rattle.std.specs.Prelude.{◌≡◌, ℕ, ◌≤◌, Bool, List, length, ℤ}
use Rattle.design.specs.Tree.{IntExpr, BoolExpr, Stmt, Stmts}
use Rattle.design.specs.Reading.{Reader, got}
use Rattle.design.specs.Expression.{with_later, int_expr, bool_expr}
use Rattle.design.specs.Action.{assignment, statement, list}
use Rattle.design.specs.Check.{names_of}
use Rattle.design.specs.declared.shape.Shape.{Shape}
use Rattle.clauses.specs.Literal.{Literal}
use Rattle.clauses.specs.Circuit.{Build, Bits, Summed, WithMark, mark! }
use Rattle.clauses.specs.Expression.{int!, bool!, test! }
use Rattle.clauses.specs.Action.{muxes!, statement!, statements! }
use Rattle.clauses.specs.Formula.{total}
use Rattle.clauses.specs.Writing.{from_code, from_codes, Emits}
use Rattle.clauses.specs.Builders.{SumBit}
use Rattle.clauses.specs.FlatState.{widths_in, slots_of, read_slots, layout_of, Reads}
use Rattle.clauses.specs.declared.gate.Cursor.{Cursor}
use Rattle.clauses.specs.declared.gate.Pen.{Pen}
use Rattle.clauses.specs.declared.gate.Out.{Out}
use Rattle.clauses.specs.declared.circuit.Bit.{Bit}
use Rattle.clauses.specs.declared.circuit.Word.{Word}
use Rattle.clauses.specs.declared.expression.Encoded.{Encoded}
use Rattle.clauses.specs.declared.action.Done.{Done}

-- gates written from one cursor to another
abbrev pub Writes : {A : Type 0} → Cursor → Build A → List ℤ → List ℤ → A → Cursor → Type 0
Writes pen build xs ys out after = Emits pen.var (build pen.var) xs ys pen.cur out after.cur after.var

-- the same for a pen, where the result stands beside the mark
abbrev pub WritesMarked : {A : Type 0} → Pen → Build (WithMark A) → List ℤ → List ℤ → A → Pen → Type 0
WritesMarked pen build xs ys out after = Writes pen.at build xs ys (record { result = out; mark = from_code after.mark }) after.at × (after.marks ≡ pen.marks)

-- an operand in code, with the mark behind it
abbrev pub int_marked : Encoded (List ℕ) → WithMark Bits
int_marked r = record { result = from_codes r.value; mark = from_code r.pen.mark }

-- the mark behind an operator, whose gates end at a cursor: an or of the mark so far with a test, if the pen marks
abbrev pub MarkWritten : Cursor → Pen → Build Literal → List ℤ → List ℤ → Pen → Type 0
MarkWritten from pen test xs ys after = Writes from (mark! pen.marks (from_code pen.mark) test) xs ys (from_code after.mark) after.at × (after.marks ≡ pen.marks)

-- gates whose result is a literal, or a word of them
abbrev pub Gives : Cursor → Build Literal → List ℤ → List ℤ → Out ℕ → Type 0
Gives pen build xs ys r = Writes pen build xs ys (from_code r.value) r.pen

abbrev pub GivesWord : Cursor → Build Bits → List ℤ → List ℤ → Out (List ℕ) → Type 0
GivesWord pen build xs ys r = Writes pen build xs ys (from_codes r.value) r.pen

-- a sum's bits and carries, and those of one bit
abbrev pub summed : Word → Summed
summed r = record { bits = from_codes r.lits; carry = from_code r.carry; earlier = from_code r.earlier }

abbrev pub Sums : Cursor → Build Summed → List ℤ → List ℤ → Out Word → Type 0
Sums pen build xs ys r = Writes pen build xs ys (summed r.value) r.pen

abbrev pub SumsBit : Cursor → Build SumBit → List ℤ → List ℤ → Out Bit → Type 0
SumsBit pen build xs ys r = Writes pen build xs ys (record { bit = from_code r.value.bit; carry = from_code r.value.carry }) r.pen

-- the muxes of all bits, for each file whose state has so many
abbrev pub MuxesWritten : Shape → ℕ → List ℕ → List ℕ → List ℕ → Cursor → List ℤ → List ℤ → Cursor → Type 0
MuxesWritten shape c a b out pen xs ys after = (file : List ℕ) → shape.bits ≡ total (widths_in file shape) → Writes pen (muxes! (from_code c) (slots_of file shape a) (slots_of file shape b)) xs ys (slots_of file shape out) after

-- A reader goes by the end of the text and by the levels that are left; it accepts at a position, for some end and levels.
pub record Here {A : Type 0} (text : List ℕ) (reader : ℕ → ℕ → Reader A) (at : ℕ) : Type 0 where
  pub end : ℕ
  pub levels : ℕ
  pub inside : end ≤ length text
  pub read : Reads (reader end levels at)

-- for each end and levels with which it accepts: the gates of the tree, and the position past it
pub record Encodes {A B : Type 0} (text : List ℕ) (reader : ℕ → ℕ → Reader A) (build : A → Build B) (at : ℕ) (pen : Cursor) (xs ys : List ℤ) (out : B) (after : Cursor) (next : ℕ) : Type 0 where
  pub encodes : (end levels : ℕ) (t : A) (n : ℕ) → end ≤ length text → reader end levels at ≡ got t n → Writes pen (build t) xs ys out after × (next ≡ n)

-- the same for a pen: the gates start from its mark, if it marks
pub record EncodesMarked {A B : Type 0} (text : List ℕ) (reader : ℕ → ℕ → Reader A) (build : Bool → Literal → A → Build (WithMark B)) (at : ℕ) (pen : Pen) (xs ys : List ℤ) (out : B) (after : Pen) (next : ℕ) : Type 0 where
  pub marks : after.marks ≡ pen.marks
  pub gates : Encodes text reader (build pen.marks (from_code pen.mark)) at pen.at xs ys (record { result = out; mark = from_code after.mark }) after.at next

module _ (text file : List ℕ) (shape : Shape) where
  -- `later` says whether the next state may be read too
  abbrev pub ints_at : Bool → ℕ → ℕ → Reader IntExpr
  ints_at later end levels = int_expr text (with_later later (names_of file shape)) end levels

  abbrev pub bools_at : Bool → ℕ → ℕ → Reader BoolExpr
  bools_at later end levels = bool_expr text (with_later later (names_of file shape)) end levels

  abbrev pub assigns_at : ℕ → ℕ → Reader Stmt
  assigns_at end levels = assignment text (names_of file shape) end

  abbrev pub stmts_at : ℕ → ℕ → Reader Stmt
  stmts_at end levels = statement text (names_of file shape) end levels

  abbrev pub lists_at : ℕ → ℕ → Reader Stmts
  lists_at end levels = list text (names_of file shape) end levels

  abbrev pub IntHere : Bool → ℕ → Type 0
  IntHere later at = Here text (ints_at later) at

  abbrev pub BoolHere : Bool → ℕ → Type 0
  BoolHere later at = Here text (bools_at later) at

  abbrev pub int_gates : Bool → List ℕ → Bool → Literal → IntExpr → Build (WithMark Bits)
  int_gates later codes marks m t = int! marks (layout_of shape) (read_slots later file shape codes) m t

  abbrev pub bool_gates : Bool → List ℕ → Bool → Literal → BoolExpr → Build (WithMark Literal)
  bool_gates later codes marks m t = bool! marks (layout_of shape) (read_slots later file shape codes) m t

  abbrev pub IntEncoded : Bool → List ℕ → ℕ → Pen → List ℤ → List ℤ → Encoded (List ℕ) → Type 0
  IntEncoded later codes at pen xs ys r = EncodesMarked text (ints_at later) (int_gates later codes) at pen xs ys (from_codes r.value) r.pen r.next

  abbrev pub BoolEncoded : Bool → List ℕ → ℕ → Pen → List ℤ → List ℤ → Encoded ℕ → Type 0
  BoolEncoded later codes at pen xs ys r = EncodesMarked text (bools_at later) (bool_gates later codes) at pen xs ys (from_code r.value) r.pen r.next

  -- an expression that marks nothing
  abbrev pub TestEncoded : Bool → List ℕ → ℕ → Cursor → List ℤ → List ℤ → Out ℕ → Type 0
  TestEncoded later codes at pen xs ys r =
      (end levels : ℕ) (t : BoolExpr) (n : ℕ) → end ≤ length text → bools_at later end levels at ≡ got t n → Gives pen (test! (layout_of shape) (read_slots later file shape codes) t) xs ys r

-- statements stand in the file itself; the state's literals go in and come out
module _ (file : List ℕ) (shape : Shape) where
  abbrev pub AssignEncoded : List ℕ → List ℕ → ℕ → Cursor → List ℤ → List ℤ → Done → Type 0
  AssignEncoded codes after at pen xs ys r = Encodes file (assigns_at file file shape) (λ (t : Stmt). statement! t (layout_of shape) (slots_of file shape codes)) at pen xs ys (slots_of file shape after) r.pen r.next

  abbrev pub StmtEncoded : List ℕ → List ℕ → ℕ → Cursor → List ℤ → List ℤ → Done → Type 0
  StmtEncoded codes after at pen xs ys r = Encodes file (stmts_at file file shape) (λ (t : Stmt). statement! t (layout_of shape) (slots_of file shape codes)) at pen xs ys (slots_of file shape after) r.pen r.next

  abbrev pub ListEncoded : List ℕ → List ℕ → ℕ → Cursor → List ℤ → List ℤ → Done → Type 0
  ListEncoded codes after at pen xs ys r = Encodes file (lists_at file file shape) (λ (ts : Stmts). statements! ts (layout_of shape) (slots_of file shape codes)) at pen xs ys (slots_of file shape after) r.pen r.next
