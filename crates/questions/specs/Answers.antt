-- What the questions answer (SPEC 4.6, 4.9), by the model.
use Rattle.std.proofs.Math.Option.{Option, none, some}
use Rattle.std.specs.Prelude.{ℕ, ℤ}
use Rattle.plane.specs.Point.{Point}
use Rattle.plane.specs.Edge.{Edge as PlaneEdge}
use Rattle.model.specs.State.{points}
use Rattle.model.specs.Contents.{Contents}
use Rattle.model.specs.Tail.{run_length}
use Rattle.model.specs.Question as question
use Rattle.model.specs.KindLength.{kind_length}
use Rattle.columns.specs.Column.{column_answer}
use Rattle.columns.specs.Found.{choice_of}
use Rattle.edges.specs.declared.CodedEdge.{CodedEdge}
use Rattle.edges.specs.Edges.{edge_of}
use Rattle.questions.specs.declared.Answer.{Answer}
use Rattle.questions.specs.declared.Answer.TheVariants.{Length, Counts, Edge, NoEdge, Degree, Kinds, Column}

-- The length of the deck.
abbrev pub length_answer : Contents → Answer
length_answer c = Length (question.length_of_contents c)

-- How many pins, taps and runs it has.
abbrev pub counts_answer : Contents → Answer
counts_answer c = let s = c.state in Counts (question.pin_count s) (question.steiner_count s) (question.edge_count s)

-- How long the runs of each kind are together.
abbrev pub kinds_answer : Contents → Answer
kinds_answer c = Kinds (kind_length c 0) (kind_length c 1) (kind_length c 2)

-- A run, by its lower end, its higher end and its length with the tail given.
abbrev pub edge_answer : ℕ → PlaneEdge → Answer
edge_answer tail e = Edge e.lo.x e.lo.y e.hi.x e.hi.y (run_length tail e)

-- The same from the codes of its ends and its length.
abbrev pub coded_answer : CodedEdge → Answer
coded_answer e = let p = edge_of e in Edge p.lo.x p.lo.y p.hi.x p.hi.y e.length

-- A run, or that there is none.
unfoldable pub edge_or_none : ℕ → Option PlaneEdge → Answer
edge_or_none tail none = NoEdge
edge_or_none tail (some e) = edge_answer tail e

-- The run at a place of the listing order, counted from 0; beyond the last there is none.
abbrev pub edge_at_answer : ℕ → Contents → Answer
edge_at_answer i c = edge_or_none c.tail (question.edge_at_place i c.state)

-- How many runs a point has; none if the deck does not hold it.
abbrev pub degree_answer : Point → Contents → Answer
degree_answer p c = Degree (question.edge_count_at p c.state)

-- The column of an x (SPEC 4.9), of the points of the deck and with its tail.
abbrev pub column_at : ℤ → Contents → Answer
column_at x c = Column (choice_of (column_answer c.tail (points c.state) x))

-- A question as data: the length, the counts, the edge at a place, the number of edges at a point, the lengths by kind, the column of an x.
pub data Question : Type 0 where
  of_length : Question
  of_counts : Question
  of_edge : ℕ → Question
  of_degree : Point → Question
  of_kinds : Question
  of_column : ℤ → Question

-- Its answer for the contents of a deck.
abbrev pub answer_to : Question → Contents → Answer
answer_to of_length c = length_answer c
answer_to of_counts c = counts_answer c
answer_to (of_edge i) c = edge_at_answer i c
answer_to (of_degree p) c = degree_answer p c
answer_to of_kinds c = kinds_answer c
answer_to (of_column x) c = column_at x c
