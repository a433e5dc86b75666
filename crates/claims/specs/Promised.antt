-- All that is promised of the calls, as one record: read this first. Above each field stands what it means for a user; the statement itself is in the file that its
-- `use` line names. That the code does what these statements speak of (`check_refusal`, `power_up_of`, `step_of`, `run_of`, `static_power_up_of`, `static_run_of`, `doubled_size_of`, `double_of`, `page_of`) is the contract of each call, in
-- src/ of its crate. The record is proved as `promised`, and used by the crate `exports`, field by field.
use Rattle.gates.specs.Meaning.{GateValues, MarksExact, GatesMonotone, RelationsMean}
use Rattle.unknowns.specs.StaticExactness.{StaticExact}
use Rattle.claims.specs.Terms.{Terms}
use Rattle.claims.specs.Examples.{Examples}
use Rattle.claims.specs.Reading.{ImageRead}
use Rattle.claims.specs.Accepted.{Accepted}
use Rattle.claims.specs.Refused.{Refusals}
use Rattle.claims.specs.Unchanged.{Unchanged}
use Rattle.claims.specs.PinsMean.{PinsMean}
use Rattle.claims.specs.NetBytes.{NetBytesAll, RuledBytesAll}
use Rattle.claims.specs.PowerUp.{PowerUpStarts}
use Rattle.claims.specs.Verdicts.{Verdicts, FirstFlows}
use Rattle.claims.specs.Steps.{StepIsCycle, RunIsSteps}
use Rattle.claims.specs.History.{Histories}
use Rattle.claims.specs.CountKept.{CountKept}
use Rattle.claims.specs.DoubledImage.{DoubledChecks, DoublingWrites, DoubledReadsAll, DoubledPlaced, DoubledUnseen}
use Rattle.claims.specs.Figures.{FiguresWritten, TurnsBackAlike, KindsAddUp, NoneBesideRefusal}
use Rattle.claims.specs.Bound.{SizeBound, BoundReached}
use Rattle.claims.specs.Groups.{Groups}
use Rattle.claims.specs.Pairing.{Demand2}
use Rattle.claims.specs.TwoRun.{Demand3}
use Rattle.claims.specs.InBytes.{ClearStays, StepsAgree, DoubledShows}
use Rattle.claims.specs.UnknownStart.{UnknownStarts}
use Rattle.claims.specs.Ways.{WaysCountedAll}
use Rattle.claims.specs.Exactness.{Exactness}
use Rattle.claims.specs.ExactnessExamples.{ExactnessExamples}
use Rattle.claims.specs.StaticNets.{StaticNetsAll}
use Rattle.claims.specs.StaticRuns.{StaticSound, StaticWakes, StaticRuns}
use Rattle.claims.specs.StaticBytes.{StaticClear, StaticPowerUpAll}
use Rattle.claims.specs.StaticPlain.{StaticPlain}
use Rattle.claims.specs.Page.{PageShape, PageHeading, PageNet, PageSign}
use Rattle.claims.specs.PageExamples.{PageExamples}
use Rattle.claims.specs.Upright.{Uprights}

pub record Promised : Type 0 where
  -- FIRST, what most users lean on. A run that is clear stays clear, and shows the same bytes at its protected OUTs, whatever the untrusted pins and the marked registers held.
  pub clear_stays : ClearStays
  -- Nor does it matter what the registers without a start held when the array woke: from power-up, and from every state with which it may wake, all calls give the same refusals,
  -- verdicts, marks and unmarked values.
  pub unknown_start : UnknownStarts
  -- Two steps from states and on rows that differ in the values of marked bytes alone give the same verdict, the same marks and the same unmarked values, where the first is not refused.
  pub steps_agree : StepsAgree
  -- A run of the doubled netlist shows, as plain values, the values and marks of the run on its source, where that is not refused, from power-up and from any state.
  pub doubled_shows : DoubledShows
  -- A static run that is clear (document 02, L4) makes every run clear that fills its unknown bits, and known values are that run's values; and so on from what both have left.
  pub static_clear : StaticClear
  -- THE TERMS of the statements below: the numbers of the kinds, a count of nets, a mark, the number of marked registers, a state, the outputs of a cycle, the doubled size.
  pub terms : Terms
  -- THE IMAGE. What is read from its bytes are the sizes, kinds and operands that document 01 puts there.
  pub image_read : ImageRead
  -- DEMAND 1, refusals. A call is accepted exactly if the image and everything that is lent are as document 01 asks.
  pub when_accepted : Accepted
  -- Otherwise its refusal has the number and the place of the first condition that applies, and no other.
  pub refusals : Refusals
  -- A call that is refused changes no byte that it was lent.
  pub unchanged : Unchanged
  -- DEMAND 2, values and marks. The gates' values are those of arithmetic.
  pub gate_values : GateValues
  -- A gate is marked exactly where other values of its marked pins would change its value.
  pub marks_exact : MarksExact
  -- A pin with a mark more never takes the mark of a gate away.
  pub gates_monotone : GatesMonotone
  -- Document 01's examples C1 to C12 come out as it says, C10 as document 02's L5 says, and so does a run of two rows.
  pub examples : Examples
  -- Power-up gives each register its start, trusted, or, where none is given, an untrusted 0, whatever the state held before.
  pub power_up_starts : PowerUpStarts
  -- A pin reads the byte of the net that it names; with its top bit set, that net's value inverted, and its mark. In the doubled netlist value pins keep the bit, and mark pins drop it.
  pub pins_mean : PinsMean
  -- In every cycle, which a step is and of which a run is made, each net has the byte of its kind, and after the clock each register what its pin reads.
  pub net_bytes : NetBytesAll
  -- No other bytes are such, so that the bytes of a cycle can be checked net by net.
  pub ruled_bytes : RuledBytesAll
  -- The verdict of a cycle is the lowest protected OUT that is marked, or clear where there is none.
  pub verdicts : Verdicts
  -- The first flow among cycles is that of the first cycle that has one, or clear where none has; that a run answers so is part of `run_is_steps`.
  pub first_flows : FirstFlows
  -- A step gives its cycle: the verdict, the bytes of all nets, and the state after the clock.
  pub step_is_cycle : StepIsCycle
  -- A run gives what its steps give, one for each cycle: their outputs, the last state, and the first flow of their verdicts.
  pub run_is_steps : RunIsSteps
  -- Over a list of calls, each call works on the state that the one before it left, refused calls included, and gives one result.
  pub histories : Histories
  -- THE COUNT OF MARKED REGISTERS (document 02, L7). After power-up and after every accepted step and run the last two bytes of the state are the number of marked registers; so a
  -- list of calls that hands its state on never draws 20.
  pub count_kept : CountKept
  -- The doubled netlist shows the same values and marks as its source, in every cycle of every list of calls, from power-up and from any state.
  pub demand2 : Demand2
  -- The image that doubling writes passes checking, so that refusal 17 is never given.
  pub doubled_checks : DoubledChecks
  -- Doubling that is accepted writes the doubled image and nothing else.
  pub doubling_writes : DoublingWrites
  -- What is read from that image is the doubled netlist.
  pub doubled_reads : DoubledReadsAll
  -- Its groups stand in net order without a gap, each with the length that document 01 gives its kind.
  pub doubled_placed : DoubledPlaced
  -- Its OUTs are free, a value register keeps its start, and a mark register starts at 1 exactly if no start is given.
  pub doubled_unseen : DoubledUnseen
  -- The group of each kind has the nets that document 01 gives it, in that order.
  pub groups : Groups
  -- HOW BIG IT GETS (document 02, L1). Where doubling is accepted, the figures that are given without writing are those of the image that it writes.
  pub figures_written : FiguresWritten
  -- They are refused as doubling is, and a buffer of as many bytes as they say is what doubling asks for.
  pub turns_back_alike : TurnsBackAlike
  -- The nets of the nine kinds add up to all nets.
  pub kinds_add_up : KindsAddUp
  -- Beside a refusal all figures are 0.
  pub no_figures : NoneBesideRefusal
  -- No netlist of N nets doubles to more than 8 × N − 6 nets.
  pub size_bound : SizeBound
  -- For every N from 1 to 8,192 a netlist that passes checking doubles to that many, or would if 15 did not stop it.
  pub bound_reached : BoundReached
  -- DEMAND 3, two runs. Two lists of calls that differ in the values of marked pins alone give the same refusals, verdicts, marks and unmarked values, from power-up and
  -- from any two states that differ in the values of marked registers alone.
  pub demand3 : Demand3
  -- "Agree", by which that is said, means of bytes 0 to 3 equal marks, and equal values where the mark is 0.
  pub relations_mean : RelationsMean
  -- EXACT MARKS (document 02, L5). In every cycle, a net that no marked input or register reaches along two ways is marked exactly if other values of the marked inputs and registers,
  -- chosen together, would change its value.
  pub exactness : Exactness
  -- Ways are counted as on a drawing: to a net there are as many as lead to the nets that its pins name, added up, used or not; to a register there is none but from itself.
  pub ways_counted : WaysCountedAll
  -- Where a marked input reaches a XOR along two ways, it is marked though nothing changes it; a select between two ones, as a MUX, is not.
  pub exactness_examples : ExactnessExamples
  -- STATIC RUNS (document 02, L4). In every cycle of a static run each net has the code of its kind, by filling, and its answer, outputs and state are read off its cycles.
  pub static_nets : StaticNetsAll
  -- What a static run says holds of every run that it covers: in every cycle, for every net, output and register, from any covered state.
  pub static_sound : StaticSound
  -- What static power-up leaves covers power-up, and every state with which the array may wake.
  pub static_wakes : StaticWakes
  -- So it holds over lists of runs, those included that are refused with 1 to 10, 12 or 14, from power-up and from every state with which the array may wake.
  pub static_runs : StaticRuns
  -- At static power-up a register without a start is an unknown untrusted bit, and every other has its start.
  pub static_starts_lem : StaticPowerUpAll
  -- Without unknown bits and without start 2 static calls give the answers and bytes of the plain ones.
  pub static_plain : StaticPlain
  -- At a gate no code that covers all fillings of its pins says more than the static rule.
  pub static_exact : StaticExact
  -- PAGES (document 02, L6). An accepted call writes one page for each 64 cycles, and one for the rest: each is a heading line and a line per output, of 70 characters and a newline each.
  pub page_shape : PageShape
  -- The heading of a page has the word cycle and the number of its first cycle, set left.
  pub page_heading : PageHeading
  -- The line of an OUT begins with its net number, set right, and a blank; lines stand in net order.
  pub page_net : PageNet
  -- In the line of an output, on the page of a cycle, stands the sign of its byte in that cycle, in the cycle's column: 0, 1, and l, h for untrusted 0, 1. Behind the last cycle there are blanks.
  pub page_sign : PageSign
  -- Some pages, as the text that a reader sees: the counter's, two outputs, two pages, no outputs, no cycles.
  pub page_examples : PageExamples
  -- IMAGES WITHOUT INVERTED PINS (document 02, L3) give by every call what they gave before, and the doubled image of before; and all images that were accepted before are such.
  pub upright : Uprights
