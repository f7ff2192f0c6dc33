use Rattle.recording.proofs.Spelling.{hands, asking, among}
use Rattle.recording.proofs.Reader.next_item.Goals as goal

pub returns-in_err-self-clause-records : goal.returns-in_err-self-clause-records
returns-in_err-self-clause-records c = hands

pub returns-in_err-self-clause-asking : goal.returns-in_err-self-clause-asking
returns-in_err-self-clause-asking c = asking

pub returns-in_err-self-clause-among : goal.returns-in_err-self-clause-among
returns-in_err-self-clause-among c = among

pub returns-in_default-clause-records : goal.returns-in_default-clause-records
returns-in_default-clause-records c = hands

pub returns-in_default-clause-asking : goal.returns-in_default-clause-asking
returns-in_default-clause-asking c = asking

pub returns-in_default-clause-among : goal.returns-in_default-clause-among
returns-in_default-clause-among c = among

pub returns-then-is_scan-clause-records : goal.returns-then-is_scan-clause-records
returns-then-is_scan-clause-records c = hands

pub returns-then-is_scan-clause-asking : goal.returns-then-is_scan-clause-asking
returns-then-is_scan-clause-asking c = asking

pub returns-then-is_scan-clause-among : goal.returns-then-is_scan-clause-among
returns-then-is_scan-clause-among c = among

pub returns-clause-records : goal.returns-clause-records
returns-clause-records c = hands

pub returns-clause-asking : goal.returns-clause-asking
returns-clause-asking c = asking

pub returns-clause-among : goal.returns-clause-among
returns-clause-among c = among
