use Rattle.example_runs.proofs.Frames.{data_frames, acknowledgements, join_requests, join_accepts}
use Rattle.example_runs.proofs.runs.written_frames.Goals as goal

pub returns-clause-data : goal.returns-clause-data
returns-clause-data c = data_frames

pub returns-clause-acknowledgements : goal.returns-clause-acknowledgements
returns-clause-acknowledgements c = acknowledgements

pub returns-clause-join_requests : goal.returns-clause-join_requests
returns-clause-join_requests c = join_requests

pub returns-clause-join_accepts : goal.returns-clause-join_accepts
returns-clause-join_accepts c = join_accepts
