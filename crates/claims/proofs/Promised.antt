-- All theorems, in one record.
use Rattle.gates.proofs.Laws
use Rattle.gates.proofs.Meaning
use Rattle.claims.specs.Promised.{Promised}
use Rattle.claims.proofs.Terms
use Rattle.claims.proofs.Reading
use Rattle.claims.proofs.Examples
use Rattle.claims.proofs.Accepted
use Rattle.claims.proofs.Refused
use Rattle.claims.proofs.Unchanged
use Rattle.claims.proofs.PinsMean
use Rattle.claims.proofs.NetBytes
use Rattle.claims.proofs.PowerUp
use Rattle.claims.proofs.Verdicts
use Rattle.claims.proofs.Steps
use Rattle.claims.proofs.History
use Rattle.claims.proofs.CountKept
use Rattle.claims.proofs.DoubledImage
use Rattle.claims.proofs.Figures
use Rattle.claims.proofs.Bound
use Rattle.claims.proofs.Groups
use Rattle.claims.proofs.Pairing
use Rattle.claims.proofs.TwoRun
use Rattle.claims.proofs.TwoSteps
use Rattle.claims.proofs.ClearRun
use Rattle.claims.proofs.UnknownStart
use Rattle.claims.proofs.DoubledRun
use Rattle.claims.proofs.Ways
use Rattle.claims.proofs.Exactness
use Rattle.claims.proofs.ExactnessExamples
use Rattle.unknowns.proofs.Exact
use Rattle.claims.proofs.StaticNets
use Rattle.claims.proofs.StaticRuns
use Rattle.claims.proofs.StaticBytes
use Rattle.claims.proofs.StaticPlain
use Rattle.claims.proofs.Page
use Rattle.claims.proofs.PageExamples
use Rattle.claims.proofs.Upright

pub promised : Promised
promised =
    record {
      clear_stays = ClearRun.clear_stays;
      unknown_start = UnknownStart.unknown_start;
      steps_agree = TwoSteps.steps_agree;
      doubled_shows = DoubledRun.doubled_shows;
      static_clear = StaticBytes.static_clear;
      terms = Terms.terms;
      image_read = Reading.image_read;
      when_accepted = Accepted.when_accepted;
      refusals = Refused.refusals;
      unchanged = Unchanged.unchanged;
      gate_values = Meaning.gate_values;
      marks_exact = Meaning.marks_exact;
      gates_monotone = Laws.gates_monotone;
      examples = Examples.examples;
      power_up_starts = PowerUp.power_up_starts;
      pins_mean = PinsMean.pins_mean;
      net_bytes = NetBytes.net_bytes;
      ruled_bytes = NetBytes.ruled_bytes;
      verdicts = Verdicts.verdicts;
      first_flows = Verdicts.first_flows;
      step_is_cycle = Steps.step_is_cycle;
      run_is_steps = Steps.run_is_steps;
      histories = History.histories;
      count_kept = CountKept.count_kept;
      demand2 = Pairing.demand2;
      doubled_checks = DoubledImage.doubled_checks;
      doubling_writes = DoubledImage.doubling_writes;
      doubled_reads = DoubledImage.doubled_reads;
      doubled_placed = DoubledImage.doubled_placed;
      doubled_unseen = DoubledImage.doubled_unseen;
      groups = Groups.groups;
      figures_written = Figures.figures_written;
      turns_back_alike = Figures.turns_back_alike;
      kinds_add_up = Figures.kinds_add_up;
      no_figures = Figures.no_figures;
      size_bound = Bound.size_bound;
      bound_reached = Bound.bound_reached;
      demand3 = TwoRun.demand3;
      relations_mean = Meaning.relations_mean;
      exactness = Exactness.exactness;
      ways_counted = Ways.ways_counted;
      exactness_examples = ExactnessExamples.exactness_examples;
      static_nets = StaticNets.static_nets;
      static_sound = StaticRuns.static_sound;
      static_wakes = StaticRuns.static_wakes;
      static_runs = StaticRuns.static_runs;
      static_starts_lem = StaticBytes.static_starts_lem;
      static_plain = StaticPlain.static_plain;
      static_exact = Exact.static_exact;
      page_shape = Page.page_shape;
      page_heading = Page.page_heading;
      page_net = Page.page_net;
      page_sign = Page.page_sign;
      page_examples = PageExamples.page_examples;
      upright = Upright.upright;
    }
