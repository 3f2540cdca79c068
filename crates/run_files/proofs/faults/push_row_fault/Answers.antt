use Rattle.run_files.proofs.faults.push_row_fault.Goals as goal

pub returns-in-UnknownValue : goal.returns-in-UnknownValue
returns-in-UnknownValue c = rw c.in-UnknownValue.is (rw (← c.category_name.ensures) c.push_with_brackets-in-UnknownValue.ensures)
