use Rattle.recording_files.proofs.FlowsGive.{all_flows, first_flows}
use Rattle.recording_files.proofs.laws.flow_records_are_those_of_the_text.Goals as goal

pub returns : goal.returns
returns c = record {
  all = λ f. all_flows f.limit f.files f.text f.give;
  first = λ f. first_flows f.limit f.files f.text f.give;
}
