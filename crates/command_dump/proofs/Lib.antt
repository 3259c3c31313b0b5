mod FullDumped
